-- Where no state below a rule is without a tree, each has its first tree.
use Rattle.std.specs.Prelude.{◌≡◌, ◌⊎◌, ℕ, ◌<◌, List, [], ◌∷◌, length, map, Bool, Some, refl}
use Rattle.std.proofs.Common.{zero, suc, arith, ap, sym, ◌∙◌, subst, inl, inr, get_or}
use Rattle.std.proofs.lemmas.List.{length-map}
use Rattle.tib_lex.specs.Lists.{Along}
use Rattle.tib_lex.proofs.Lists.{append_nil}
use Rattle.tib_lex.proofs.Members.{has_at}
use Rattle.tib_cost.specs.Semiring.{ProductLaws}
use Rattle.tib_tree.specs.Trees.{Tree, Trees, first_of, only}
use Rattle.tib_tree.proofs.Fill.{only_tree}
use Rattle.tib_grammar.specs.Forms.{AreNormal, IsLabel}
use Rattle.tib_grammar.specs.GrammarOf.{GrammarOf}
use Rattle.tib_grammar.specs.Range.{AllBelow}
use Rattle.tib_grammar.specs.Sides.{Side, Symbol, label, hole, holes, holes_of}
use Rattle.tib_grammar.specs.declared.Rule.{Rule}
use Rattle.tib_grammar.specs.Run.{IsCost, yields}
use Rattle.tib_grammar.proofs.Best.{best, best-is_least}
use Rattle.tib_grammar.proofs.Sides.{holes-relabel}
use Rattle.tib_grammar.proofs.NormalRuns.{count-yields}
use Rattle.tib_inside.specs.Inside.{IsInside}
use Rattle.tib_inside.specs.Trimmed.{HasSeriesOfEach, IsTrimmed}
use Rattle.tib_inside.specs.Useful.{IsLive}
use Rattle.tib_inside.proofs.Keeping.{as_many, named_at}
use Rattle.tib_inside.proofs.Occurring.{below_at}
use Rattle.tib_ranked_trees.specs.Best.{Costed, IsTreeAt}
use Rattle.tib_ranked_trees.specs.Levels.{states_at}
use Rattle.tib_ranked_trees.proofs.Opening.{has_least}
use Rattle.tib_ranked_trees.proofs.Children.{get_or-map}
use Rattle.tib_grammar.specs.Run.{rule_at}
use Rattle.tib_ranked_trees.specs.Levels.{states_of}
use Rattle.tib_ranked_trees.specs.ListsOf.{ListsOf}
use Rattle.tib_ranked_trees.specs.Held.{list_of}
use Rattle.tib_ranked_trees.specs.declared.lists.Entry.{Entry}
use Rattle.tib_lazy_lists.specs.Firsts.{AreFirsts}
use Rattle.tib_k_best.specs.Trimmed.{HaveTreesBelow}

some_or : (es : List Entry) → (0 < length es) ⊎ (es ≡ [])
some_or [] = inr refl
some_or (e ∷ es) = inl (omega arith)

pub trees_below :
    (product : ℕ → ℕ → ℕ) (x : ListsOf) → HaveTreesBelow product x.rules → AreFirsts product x → (n : ℕ) → n < length x.rules → (i : ℕ) → i < length (states_of (rule_at x.rules n)) →
    0 < length (list_of x (get_or (states_of (rule_at x.rules n)) i 0))
trees_below product x trees f n h i l = elim (some_or (list_of x (get_or (states_of (rule_at x.rules n)) i 0))) [
  | inl some ↦ some
  | inr none ↦ absurd (trees n h i l (f.none (get_or (states_of (rule_at x.rules n)) i 0) none))
]

-- a state with an inside cost has a tree
inside_tree :
    {levelled weighted : Bool} {product : ℕ → ℕ → ℕ} (laws : ProductLaws levelled weighted product) (rules : List (Rule ℕ)) → AreNormal rules → (q c : ℕ) → IsInside product rules q (Some c) →
    (y : Costed) × IsTreeAt product rules q y
inside_tree {levelled} {weighted} {product} laws rules normal q c inside =
    let a = inside.attained in
    let ts : Trees ℕ = yields rules (a.0).runs in
    let t : Tree ℕ = first_of 0 ts in
    let one : ts ≡ only t = only_tree ts (count-yields rules (q ∷ []) (a.0).runs (a.0).are_runs) in
    let l = has_least (IsCost product rules (q ∷ []) (only t)) (best product rules (only t) (q ∷ [])) c (best-is_least laws rules normal (only t) (q ∷ []))
    (record { runs = (a.0).runs; are_runs = (a.0).are_runs; yielded = one; costs = (a.0).costs }) a.1 in
    ((t, l.value), l.least)

-- the states of a rule in normal form are all that are in its side
all_below : (s : Side ℕ ℕ) → IsLabel s.label → holes_of s ≡ holes s.kids
all_below s l = by s.label s.kids l
  where
    by : (f : Symbol ℕ ℕ) (kids : Trees (Symbol ℕ ℕ)) → IsLabel f → holes_of (record { label = f; kids = kids }) ≡ holes kids
    by (label f) kids l = append_nil (holes kids)
    by (hole p) kids l = absurd l

along_at : {A : Type 0} (R : ℕ → A → Type 0) (xs : List ℕ) (ys : List A) → Along R xs ys → (i : ℕ) → i < length xs → (y : A) × R (get_or xs i 0) y
along_at {A} R [] ys a i h = absurd (omega arith)
along_at {A} R (x ∷ xs) [] a i h = absurd a
along_at {A} R (x ∷ xs) (y ∷ ys) a zero h = (y, a.0)
along_at {A} R (x ∷ xs) (y ∷ ys) a (suc i) h = along_at R xs ys a.1 i (omega arith)

-- in a trimmed grammar no state below a rule is without a tree
pub trimmed_has_trees :
    {levelled weighted : Bool} {product : ℕ → ℕ → ℕ} (laws : ProductLaws levelled weighted product) (old new : GrammarOf) → AreNormal old.rules → AreNormal new.rules → (t : IsTrimmed product old new) →
    HasSeriesOfEach product old new → HaveTreesBelow product new.rules
trimmed_has_trees {levelled} {weighted} {product} laws old new before now t each n h i l none =
    let g : ℕ → ℕ = λ j. get_or t.states j 0 in
    let qs : List ℕ = states_at new.rules n in
    let m : ℕ = get_or t.rules n 0 in
    let whole : holes_of (rule_at new.rules n).right ≡ qs = all_below (rule_at new.rules n).right (now n h).is_label in
    let named : map g qs ≡ holes_of (rule_at old.rules m).right =
    ap (map g) (sym whole) ∙ sym (holes-relabel g (only (rule_at new.rules n).right)) ∙ ap (λ (r : Rule ℕ). holes (only r.right)) (named_at product old new t n h)
    in
    let live : IsLive product old.rules m = ((t.are_rules m).0 (has_at t.rules n 0 (omega (arith, as_many product old new t, h)))).0 in
    let long : i < length (holes_of (rule_at old.rules m).right) = omega (arith, l, length-map qs g, ap (λ (xs : List ℕ). length xs) named) in
    let inside = along_at (λ q c. IsInside product old.rules q (Some c)) (holes_of (rule_at old.rules m).right) live.insides live.are_insides i long in
    let state : get_or (holes_of (rule_at old.rules m).right) i 0 ≡ g (get_or qs i 0) = ap (λ (xs : List ℕ). get_or xs i 0) (sym named) ∙ get_or-map g qs i 0 0 l in
    let tree = inside_tree laws old.rules before (g (get_or qs i 0)) inside.0 (subst (λ (q : ℕ). IsInside product old.rules q (Some inside.0)) state inside.1) in
    let low : get_or qs i 0 < length t.states = below_at (length t.states) qs i 0 (subst (AllBelow (length t.states)) whole (t.in_range n h).1) l in
    none tree.0 ((each t (get_or qs i 0) low (tree.0).0 (Some (tree.0).1)).0 tree.1)
