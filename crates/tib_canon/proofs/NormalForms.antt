-- The normal forms of a grammar have the same rules.
use Rattle.tib_cost.specs.declared.Scale.{Scale}
use Rattle.std.proofs.Common.{◌≡◌, ℕ, ◌+◌, ◌≤◌, List, [], ◌∷◌, length, sym, subst, arith, suc, inl, inr}
use Rattle.tib_lex.specs.Lists.{Has}
use Rattle.tib_tree.specs.Trees.{Trees, none, tree, only}
use Rattle.tib_grammar.specs.Sides.{Symbol, label, hole, HolesAreLeaves, labels_in}
use Rattle.tib_grammar.specs.GrammarOf.{GrammarOf}
use Rattle.tib_grammar.specs.Range.{SidesEndInHoles}
use Rattle.tib_grammar.specs.Run.{rule_at, no_rule}
use Rattle.tib_grammar.specs.declared.Rule.{Rule}
use Rattle.tib_normal.specs.NormalForm.{heads, inner_rules, all_inner, first_inner, IsNormalCost, IsNormalForm}
use Rattle.tib_normal.proofs.Normalizing.{below_or_after}
use Rattle.tib_canon.specs.Canonical.{IsCanonical}
use Rattle.tib_canon.proofs.Alike.{AreAlike}
use Rattle.tib_canon.proofs.TrimmedOnce.{one_canonical_of}
use Rattle.tib_lex.proofs.Members.{has_at, has_either}

-- nothing is below a state in the rules of a normal form

heads_leaves : (s : ℕ) (k : Trees (Symbol ℕ ℕ)) → HolesAreLeaves (heads s k)
heads_leaves s none = tt
heads_leaves s (tree (hole q) kids rest) = heads_leaves s rest
heads_leaves s (tree (label f) kids rest) = heads_leaves (suc s + labels_in kids) rest

inner_leaves : (s : ℕ) (k : Trees (Symbol ℕ ℕ)) (r : Rule ℕ) → Has (inner_rules s k) r → HolesAreLeaves (only r.right)
inner_leaves s none r h = absurd h
inner_leaves s (tree (hole q) kids rest) r h = inner_leaves s rest r h
inner_leaves s (tree (label f) kids rest) r h = elim h [
  | inl e ↦ subst (λ (x : Rule ℕ). HolesAreLeaves (only x.right)) e (heads_leaves (suc s) kids, tt)
  | inr m ↦ elim (below_or_after s kids rest r m) [
    | inl x ↦ inner_leaves (suc s) kids r x
    | inr x ↦ inner_leaves (suc s + labels_in kids) rest r x
  ]
]

all_leaves : (s : ℕ) (rules : List (Rule ℕ)) (r : Rule ℕ) → Has (all_inner s rules) r → HolesAreLeaves (only r.right)
all_leaves s [] r h = absurd h
all_leaves s (x ∷ rules) r h = elim (has_either (inner_rules s x.right.kids) (all_inner (s + labels_in x.right.kids) rules) r h) [
  | inl m ↦ inner_leaves s x.right.kids r m
  | inr m ↦ all_leaves (s + labels_in x.right.kids) rules r m
]

module _ (product : ℕ → ℕ → ℕ) (states : ℕ) (rules : List (Rule ℕ)) where
  cost_leaves : (r : Rule ℕ) → IsNormalCost product states rules r.left r.right r.cost → HolesAreLeaves (only r.right)
  cost_leaves r h = elim h [
    | inl x ↦ subst (λ s. HolesAreLeaves (only s)) (sym x.is_side) (heads_leaves (first_inner states rules x.rule) (rule_at rules x.rule).right.kids, tt)
    | inr i ↦ all_leaves states rules r i
  ]

  pub form_leaves : (n : ℕ) (xs : List (Rule ℕ)) → IsNormalForm product states rules n xs → SidesEndInHoles xs
  form_leaves n xs form m h = cost_leaves (rule_at xs m) (form.least (rule_at xs m) (has_at xs m no_rule h)).attained.0

  -- a rule of one normal form is in another
  form_stands : (m n : ℕ) (xs ys : List (Rule ℕ)) → IsNormalForm product states rules m xs → IsNormalForm product states rules n ys → (r : Rule ℕ) → Has xs r → Has ys r
  form_stands m n xs ys one two r h =
      let l = one.least r h in
      let w = two.whole r.left r.right r.cost l.attained.0 l.attained.1 in
      let k = two.least (record { left = r.left; right = r.right; cost = w.0 }) w.1 in
      let low : r.cost ≤ w.0 = l.lower w.0 k.attained.0 k.attained.1 in
      let high : w.0 ≤ r.cost = k.lower r.cost l.attained.0 l.attained.1 in
      let same : w.0 ≡ r.cost = omega (arith, low, high) in
      subst (λ c. Has ys (record { left = r.left; right = r.right; cost = c })) same w.1

  pub forms_alike : (m n : ℕ) (xs ys : List (Rule ℕ)) → IsNormalForm product states rules m xs → IsNormalForm product states rules n ys → AreAlike xs ys
  forms_alike m n xs ys one two = record { to = form_stands m n xs ys one two; from = form_stands n m ys xs two one }

  pub one_of_forms :
      (scale : Scale) (labels : List (List ℕ)) (m n h i : GrammarOf) → IsNormalForm product states rules (length m.names) m.rules →
      IsNormalForm product states rules (length n.names) n.rules → IsCanonical product scale labels m h → IsCanonical product scale labels n i → h ≡ i
  one_of_forms scale labels m n h i one two a b =
      one_canonical_of product scale labels m n h i (form_leaves (length m.names) m.rules one) (form_leaves (length n.names) n.rules two)
      (forms_alike (length m.names) (length n.names) m.rules n.rules one two) a b
