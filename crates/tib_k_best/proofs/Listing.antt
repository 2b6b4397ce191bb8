-- What the entries of a list say.
use Rattle.std.specs.Prelude.{◌≡◌, ◌<◌, ◌≤◌, ℕ, List, length, refl}
use Rattle.std.proofs.Common.{arith, ap, sym, ◌∙◌, subst, get_or}
use Rattle.std.proofs.lemmas.List.{length-map}
use Rattle.tib_tree.specs.Trees.{Tree, most_nodes, size}
use Rattle.tib_ranked_trees.specs.Best.{Costed}
use Rattle.tib_ranked_trees.specs.Pass as pass
use Rattle.tib_ranked_trees.specs.ListsOf.{ListsOf}
use Rattle.tib_ranked_trees.specs.Held.{list_of, no_entry, told, IsSound}
use Rattle.tib_ranked_trees.specs.declared.lists.Entry.{Entry}
use Rattle.tib_ranked_trees.proofs.Children.{get_or-map}
use Rattle.tib_k_best.specs.Listing.{costed, AreListed}

-- the list of a state, with the trees of all lists
pub are_listed : (x : ListsOf) → IsSound x → (q : ℕ) → (trees : List (Tree ℕ)) → trees ≡ x.trees → (es : List Entry) → es ≡ list_of x q → AreListed trees es
are_listed x s q trees t es e =
    subst (λ (ts : List (Tree ℕ)). AreListed ts es) (sym t) (subst (λ (fs : List Entry). AreListed x.trees fs) (sym e)
    (record {
      few = s.few q;
      there = s.listed q;
      small = λ i h. s.small (get_or (list_of x q) i no_entry).tree (s.listed q i h);
    }))

-- as many trees as entries
pub as_long : (trees : List (Tree ℕ)) (es : List Entry) (xs : List Costed) → costed trees es ≡ xs → length es ≡ length xs
as_long trees es xs e = sym (length-map es (told trees)) ∙ ap (λ (ys : List Costed). length ys) e

-- what is read of an entry
pub told_at : (trees : List (Tree ℕ)) (es : List Entry) (xs : List Costed) → costed trees es ≡ xs → (i : ℕ) → i < length xs → (d a : Entry) → a ≡ get_or es i d → told trees a ≡ get_or xs i pass.no_entry
told_at trees es xs e i h d a r =
    let l : i < length es = omega (arith, h, as_long trees es xs e) in
    ap (told trees) r ∙ sym (get_or-map (told trees) es i d pass.no_entry l) ∙ ap (λ (ys : List Costed). get_or ys i pass.no_entry) e

-- the trees of a list are small
pub told_small :
    (trees : List (Tree ℕ)) (es : List Entry) (xs : List Costed) → costed trees es ≡ xs → AreListed trees es → (i : ℕ) → i < length xs → size (get_or xs i pass.no_entry).0 ≤ most_nodes
told_small trees es xs e a i h =
    let l : i < length es = omega (arith, h, as_long trees es xs e) in
    let same : told trees (get_or es i no_entry) ≡ get_or xs i pass.no_entry = told_at trees es xs e i h no_entry (get_or es i no_entry) refl in
    subst (λ (y : Costed). size y.0 ≤ most_nodes) same (a.small i l)
