-- The series of a grammar in normal form, by recursion over the trees.
use Rattle.std.specs.Prelude.{◌≡◌, ℕ, List, [], ◌∷◌, length, Bool, true, false, ◌&&◌, ◌⊎◌, nat_eq, Option, None, Some, if◌then◌else◌}
use Rattle.std.proofs.Common.{zero, suc, arith, ap, inl, inr, add-one}
use Rattle.tib_tree.specs.Trees.{Trees, none, tree, count}
use Rattle.tib_grammar.specs.Sides.{label, holes, is_label}
use Rattle.tib_grammar.specs.Run.{rule_at, IsCost}
use Rattle.tib_grammar.specs.Forms.{AreNormal}
use Rattle.tib_grammar.proofs.NormalRuns.{count-yields, BeginsBelow, IsLeast-no_states, IsLeast-one_more, IsLeast-no_rules, IsLeast-rule, IsLeast-no_rule, IsLeast-all_rules, no_states}
use Rattle.tib_grammar.specs.declared.Rule.{Rule}
use Rattle.tib_cost.specs.Semiring.{ProductLaws}
use Rattle.tib_cost.specs.Least.{IsLeast, times, lesser}
use Rattle.tib_cost.proofs.Least.{IsLeast-none}
use Rattle.tib_lex.proofs.Booleans.{and-both, and-first, and-second}
use Rattle.tib_lex.proofs.Numbers.{nat_eq_cases}
use Rattle.tib_grammar.proofs.Sides.{is_label_cases}

-- whether a rule leads from the state q to the label f
abbrev pub fits : Rule ℕ → ℕ → ℕ → Bool
fits r q f = nat_eq r.left q && is_label f r.right.label

module _ (product : ℕ → ℕ → ℕ) (rules : List (Rule ℕ)) where
  -- the least over the first m rules, where `below` gives the costs of the children from a list of
  -- states
  abbrev pub best_rule : (List ℕ → Option ℕ) → ℕ → ℕ → ℕ → Option ℕ
  best_rule below q f zero = None
  best_rule below q f (suc m) =
      if fits (rule_at rules m) q f then
      lesser (best_rule below q f m) (times product (Some (rule_at rules m).cost) (below (holes (rule_at rules m).right.kids)))
      else
      best_rule below q f m

  -- the least cost of runs from the states that yield the trees
  abbrev pub best : Trees ℕ → List ℕ → Option ℕ
  best none [] = Some 0
  best none (q ∷ qs) = None
  best (tree f kids rest) [] = None
  best (tree f kids rest) (q ∷ qs) = times product (best_rule (best kids) q f (length rules)) (best rest qs)

fits_cases : (r : Rule ℕ) (q f : ℕ) → ((r.left ≡ q) × (r.right.label ≡ label f) × (fits r q f ≡ true)) ⊎ ((r.left ≡ q → r.right.label ≡ label f → ⊥) × (fits r q f ≡ false))
fits_cases r q f = elim (nat_eq_cases r.left q) [
  | inl h ↦ elim (is_label_cases r.right.label f) [
    | inl k ↦ inl (h.0, k.0, and-both _ _ h.1 k.1)
    | inr k ↦ inr (λ _ e. k.0 e, and-second h.1 k.1)
  ]
  | inr h ↦ inr (λ e _. h.0 e, and-first _ h.1)
]

module _ {levelled weighted : Bool} {product : ℕ → ℕ → ℕ} (laws : ProductLaws levelled weighted product) (rules : List (Rule ℕ)) (normal : AreNormal rules) where
  best_rule-is_least :
      (below : List ℕ → Option ℕ) (q f : ℕ) (kids : Trees ℕ) → ((qs : List ℕ) → IsLeast (IsCost product rules qs kids) (below qs)) → (m : ℕ) →
      IsLeast (BeginsBelow product rules q f kids m) (best_rule product rules below q f m)
  best_rule-is_least below q f kids h zero = IsLeast-no_rules laws rules q f kids
  best_rule-is_least below q f kids h (suc m) =
      rw (← add-one m) (elim (fits_cases (rule_at rules m) q f) [
        | inl y ↦ rw y.2 (IsLeast-rule laws rules q f kids m y.0 y.1 (best_rule-is_least below q f kids h m) (h (holes (rule_at rules m).right.kids)))
        | inr n ↦ rw n.1 (IsLeast-no_rule laws rules q f kids m (λ c b. n.0 b.left b.root) (best_rule-is_least below q f kids h m))
      ])

  pub no_trees : (q : ℕ) (qs : List ℕ) (c : ℕ) → IsCost product rules (q ∷ qs) none c → ⊥
  no_trees q qs c h = let e = ap count h.yielded in omega (arith, e, count-yields rules (q ∷ qs) h.runs h.are_runs)

  -- the recursion gives the least cost
  pub best-is_least : (ts : Trees ℕ) (qs : List ℕ) → IsLeast (IsCost product rules qs ts) (best product rules ts qs)
  best-is_least none [] = IsLeast-no_states laws rules
  best-is_least none (q ∷ qs) = IsLeast-none (no_trees q qs)
  best-is_least (tree f kids rest) [] = IsLeast-none (no_states rules f kids rest)
  best-is_least (tree f kids rest) (q ∷ qs) =
      IsLeast-one_more laws rules q qs f kids rest
      (IsLeast-all_rules laws rules normal q f kids (best_rule-is_least (best product rules kids) q f kids (best-is_least kids) (length rules)))
      (best-is_least rest qs)
