-- What is read of the lists of several states.
use Rattle.std.specs.Prelude.{◌≡◌, ℕ, ◌<◌, ◌≤◌, List, [], length, map}
use Rattle.std.specs.Global.{Vec}
use Rattle.std.proofs.Common.{arith, ap, sym, ◌∙◌, subst, get_or}
use Rattle.std.proofs.lemmas.List.{get_or_read, length-map}
use Rattle.tib_tree.specs.Trees.{Tree, most_nodes, size}
use Rattle.tib_ranked_trees.specs.Best.{Costed}
use Rattle.tib_ranked_trees.specs.Pass as pass
use Rattle.tib_ranked_trees.specs.ListsOf.{items_of}
use Rattle.tib_ranked_trees.specs.Seen.{tree_at}
use Rattle.tib_ranked_trees.specs.Held.{no_entry, told}
use Rattle.tib_ranked_trees.specs.declared.lists.Entry.{Entry}
use Rattle.tib_ranked_trees.proofs.Children.{get_or-map}
use Rattle.tib_k_best.specs.Listing.{costed, AreListed}
use Rattle.tib_k_best.proofs.Counting.{list_read}
use Rattle.tib_k_best.proofs.Listing.{as_long, told_at}

-- the entries of the vector at a place
pub entries_at : (vs : List (Vec Entry)) (q : ℕ) (v : Vec Entry) → q < length (map items_of vs) → v ≡ get_or vs q v → v.items ≡ get_or (map items_of vs) q []
entries_at vs q v h at = ap items_of at ∙ sym (get_or-map items_of vs q v [] (omega (arith, h, length-map vs items_of)))

module _
    (trees : List (Tree ℕ)) (vs : List (Vec Entry)) (xs : List (List Costed)) (e : map (costed trees) (map items_of vs) ≡ xs) (q : ℕ) (h : q < length xs)
    (v : Vec Entry) (at : v ≡ get_or vs q v) where
  inside : q < length (map items_of vs)
  inside = omega (arith, h, length-map (map items_of vs) (costed trees), ap (λ (ys : List (List Costed)). length ys) e)

  whole : costed trees v.items ≡ get_or xs q []
  whole = ap (costed trees) (entries_at vs q v inside at) ∙ sym (list_read trees (map items_of vs) q) ∙ ap (λ (ys : List (List Costed)). get_or ys q []) e

  -- as many trees as entries
  pub read_long : length v.items ≡ length (get_or xs q [])
  read_long = as_long trees v.items (get_or xs q []) whole

  module _ (i : ℕ) (b : i < length (get_or xs q [])) (a : Entry) (r : a ≡ get_or v.items i a) where
    -- an entry with its tree and its cost
    pub read_entry : told trees a ≡ get_or (get_or xs q []) i pass.no_entry
    read_entry = told_at trees v.items (get_or xs q []) whole i b a a r

    -- its tree is there, and small
    pub read_tree : ((p : ℕ) → AreListed trees (get_or (map items_of vs) p [])) → (a.tree < length trees) × (size (tree_at trees a.tree) ≤ most_nodes)
    read_tree all =
        let below : i < length v.items = omega (arith, b, read_long) in
        let same : get_or v.items i no_entry ≡ a = sym (get_or_read v.items i a below r no_entry) in
        let listed : AreListed trees v.items = subst (AreListed trees) (sym (entries_at vs q v inside at)) (all q) in
        (subst (λ (x : Entry). x.tree < length trees) same (listed.there i below), subst (λ (x : Entry). size (tree_at trees x.tree) ≤ most_nodes) same (listed.small i below))
