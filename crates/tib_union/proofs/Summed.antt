-- The rules of a sum: their states, their runs and their series.
use Rattle.std.specs.Prelude.{◌≡◌, ◌⊎◌, ℕ, ◌+◌, ◌<◌, List, [], ◌∷◌, length, Bool, refl}
use Rattle.std.proofs.Common.{arith, ap, sym, ◌∙◌, subst, inl, inr}
use Rattle.tib_lex.specs.Lists.{Has}
use Rattle.tib_lex.proofs.Lists.{has_mapped, mapped_has}
use Rattle.tib_lex.proofs.Members.{has_at, at_has, has_left, has_right, has_either}
use Rattle.tib_tree.specs.Trees.{Tree, Trees, none, tree, count, only, join-none}
use Rattle.tib_cost.specs.Semiring.{ProductLaws}
use Rattle.tib_cost.specs.Least.{IsLeast, lesser}
use Rattle.tib_cost.proofs.Least.{IsLeast-same, IsLeast-either, IsLeast-unique}
use Rattle.tib_cost.proofs.Times.{product-zero}
use Rattle.tib_grammar.specs.Sides.{Lone, holes_of, fill}
use Rattle.tib_grammar.specs.GrammarOf.{named_rule}
use Rattle.tib_grammar.specs.Range.{IsInRange, AreInRange}
use Rattle.tib_grammar.specs.Run.{rule_at, no_rule, AreRuns, yields, cost, IsCost}
use Rattle.tib_grammar.specs.declared.Rule.{Rule}
use Rattle.tib_grammar.proofs.NormalRuns.{count-yields}
use Rattle.tib_union.specs.Sum.{chain_to, raised, sum_rules, HasLesserSeries, SumHasLesserSeries}
use Rattle.tib_union.proofs.Raised.{raised_low, range_of}
use Rattle.tib_union.proofs.Renumbered.{moved_cost, cost_back}

-- the states of a sum are those of both and the fresh start
pub sum_range :
    (n m : ℕ) (one two : List (Rule ℕ)) → 0 < n → 0 < m → AreInRange n one → AreInRange m two → AreInRange (1 + n + m) (sum_rules n one two)
sum_range n m one two some more low high = range_of (1 + n + m) (sum_rules n one two) each
  where
    each : (s : Rule ℕ) → Has (sum_rules n one two) s → IsInRange (1 + n + m) s
    each s (inl e) = subst (IsInRange (1 + n + m)) e (omega arith, (omega arith, tt))
    each s (inr (inl e)) = subst (IsInRange (1 + n + m)) e (omega arith, (omega arith, tt))
    each s (inr (inr h)) = elim (has_either (raised 1 one) (raised (1 + n) two) s h) [
      | inl k ↦ raised_low 1 n (1 + n + m) (omega arith) one low s k
      | inr k ↦ raised_low (1 + n) m (1 + n + m) (omega arith) two high s k
    ]

-- a chain rule with one tree at its state yields this tree
lone_tree : (q : ℕ) (ts : Trees ℕ) → count ts ≡ 1 → ts ≡ fill (only (Lone q)) ts
lone_tree q none e = absurd (omega arith)
lone_tree q (tree f kids none) e = refl
lone_tree q (tree f kids (tree g more rest)) e = absurd (omega arith)

module _
    {levelled weighted : Bool} {product : ℕ → ℕ → ℕ} (laws : ProductLaws levelled weighted product) (rules : List (Rule ℕ)) where
  -- a run below a chain rule of the start costs as much
  begun : (i q : ℕ) → i < length rules → rule_at rules i ≡ chain_to q → (t : Tree ℕ) (c : ℕ) → IsCost product rules (q ∷ []) (only t) c → IsCost product rules (0 ∷ []) (only t) c
  begun i q low is t c h = record {
    runs = tree i h.runs none;
    are_runs = (low, ap (λ (r : Rule ℕ). r.left) is, subst (λ (r : Rule ℕ). AreRuns rules (holes_of r.right) h.runs) (sym is) h.are_runs, tt);
    yielded = join-none _ ∙ ap (λ (r : Rule ℕ). fill (only r.right) (yields rules h.runs)) is ∙ ap (fill (only (Lone q))) h.yielded;
    costs = product-zero laws _ ∙ ap (λ (r : Rule ℕ). product r.cost (cost product rules h.runs)) is ∙ laws.neutral _ ∙ h.costs;
  }

  -- and where each rule of the start is a chain rule, a run from it is above one from the end of
  -- its chain rule
  module _ (Ends : ℕ → Type 0) (chains : (r : Rule ℕ) → Has rules r → r.left ≡ 0 → (q : ℕ) × Ends q × (r ≡ chain_to q)) where
    below_start : (t : Tree ℕ) (c : ℕ) → IsCost product rules (0 ∷ []) (only t) c → (q : ℕ) × Ends q × IsCost product rules (q ∷ []) (only t) c
    below_start t c h = by h.runs h.are_runs h.yielded h.costs
      where
        by : (runs : Trees ℕ) → AreRuns rules (0 ∷ []) runs → yields rules runs ≡ only t → cost product rules runs ≡ c → (q : ℕ) × Ends q × IsCost product rules (q ∷ []) (only t) c
        by none a y e = absurd a
        by (tree i runs (tree j others more)) a y e = absurd a.3
        by (tree i runs none) a y e =
            let chain = chains (rule_at rules i) (has_at rules i no_rule a.0) a.1 in
            let q : ℕ = chain.0 in
            let is : rule_at rules i ≡ chain_to q = chain.2 in
            let below : AreRuns rules (q ∷ []) runs = subst (λ (r : Rule ℕ). AreRuns rules (holes_of r.right) runs) is a.2 in (
              q,
              chain.1,
              record {
                runs = runs;
                are_runs = below;
                yielded = lone_tree q (yields rules runs) (count-yields rules (q ∷ []) runs below) ∙ ap (λ (r : Rule ℕ). fill (only r.right) (yields rules runs)) (sym is) ∙ sym (join-none _) ∙ y;
                costs = sym (laws.neutral _) ∙ ap (λ (r : Rule ℕ). product r.cost (cost product rules runs)) (sym is) ∙ sym (product-zero laws _) ∙ e;
              },
            )

module _
    {levelled weighted : Bool} {product : ℕ → ℕ → ℕ} (laws : ProductLaws levelled weighted product)
    (n m : ℕ) (one two : List (Rule ℕ)) (some : 0 < n) (more : 0 < m) (low : AreInRange n one) (high : AreInRange m two) where
  abbrev both : List (Rule ℕ)
  both = sum_rules n one two

  to_one : (r : Rule ℕ) → Has one r → Has both (named_rule (λ q. 1 + q) r)
  to_one r h = inr (inr (has_left (raised 1 one) (raised (1 + n) two) (named_rule (λ q. 1 + q) r) (mapped_has (named_rule (λ q. 1 + q)) one r h)))

  to_two : (r : Rule ℕ) → Has two r → Has both (named_rule (λ q. 1 + n + q) r)
  to_two r h = inr (inr (has_right (raised 1 one) (raised (1 + n) two) (named_rule (λ q. 1 + n + q) r) (mapped_has (named_rule (λ q. 1 + n + q)) two r h)))

  -- a rule of the sum is a chain rule, one of the first or one of the second
  abbrev IsOneOf : Rule ℕ → Type 0
  IsOneOf s =
      ((q : ℕ) × ((q ≡ 1) ⊎ (q ≡ 1 + n)) × (s ≡ chain_to q))
      ⊎ (((r : Rule ℕ) × Has one r × (named_rule (λ q. 1 + q) r ≡ s)) ⊎ ((r : Rule ℕ) × Has two r × (named_rule (λ q. 1 + n + q) r ≡ s)))

  one_of : (s : Rule ℕ) → Has both s → IsOneOf s
  one_of s (inl e) = inl (1, inl refl, sym e)
  one_of s (inr (inl e)) = inl (1 + n, inr refl, sym e)
  one_of s (inr (inr h)) = elim (has_either (raised 1 one) (raised (1 + n) two) s h) [
    | inl k ↦ inr (inl (has_mapped (named_rule (λ q. 1 + q)) one s k))
    | inr k ↦ inr (inr (has_mapped (named_rule (λ q. 1 + n + q)) two s k))
  ]

  left_below : (r : Rule ℕ) → Has one r → r.left < n
  left_below r h = let at = at_one r h in subst (λ (s : Rule ℕ). s.left < n) at.2 (low at.0 at.1).0
    where
      at_one : (r : Rule ℕ) → Has one r → (i : ℕ) × (i < length one) × (rule_at one i ≡ r)
      at_one r h = at_has one r no_rule h

  from_one : (s : Rule ℕ) → Has both s → (k : ℕ) → k < n → s.left ≡ 1 + k → (r : Rule ℕ) × Has one r × (named_rule (λ q. 1 + q) r ≡ s) × (r.left ≡ k)
  from_one s h k b e = elim (one_of s h) [
    | inl c ↦ let zero : s.left ≡ 0 = ap (λ (x : Rule ℕ). x.left) c.2 in absurd (omega (arith, zero, e))
    | inr o ↦ elim o [
      | inl x ↦ let left : 1 + x.0.left ≡ s.left = ap (λ (y : Rule ℕ). y.left) x.2 in (x.0, x.1, x.2, omega (arith, left, e))
      | inr x ↦ let left : 1 + n + x.0.left ≡ s.left = ap (λ (y : Rule ℕ). y.left) x.2 in absurd (omega (arith, left, e, b))
    ]
  ]

  from_two : (s : Rule ℕ) → Has both s → (k : ℕ) → k < m → s.left ≡ 1 + n + k → (r : Rule ℕ) × Has two r × (named_rule (λ q. 1 + n + q) r ≡ s) × (r.left ≡ k)
  from_two s h k b e = elim (one_of s h) [
    | inl c ↦ let zero : s.left ≡ 0 = ap (λ (x : Rule ℕ). x.left) c.2 in absurd (omega (arith, zero, e))
    | inr o ↦ elim o [
      | inl x ↦ let left : 1 + x.0.left ≡ s.left = ap (λ (y : Rule ℕ). y.left) x.2 in let bad : x.0.left < n = left_below x.0 x.1 in absurd (omega (arith, left, e, bad))
      | inr x ↦ let left : 1 + n + x.0.left ≡ s.left = ap (λ (y : Rule ℕ). y.left) x.2 in (x.0, x.1, x.2, omega (arith, left, e))
    ]
  ]

  -- each rule of the start is one of the two chain rules
  chains : (s : Rule ℕ) → Has both s → s.left ≡ 0 → (q : ℕ) × ((q ≡ 1) ⊎ (q ≡ 1 + n)) × (s ≡ chain_to q)
  chains s h e = elim (one_of s h) [
    | inl c ↦ c
    | inr o ↦ elim o [
      | inl x ↦ let left : 1 + x.0.left ≡ s.left = ap (λ (y : Rule ℕ). y.left) x.2 in absurd (omega (arith, left, e))
      | inr x ↦ let left : 1 + n + x.0.left ≡ s.left = ap (λ (y : Rule ℕ). y.left) x.2 in absurd (omega (arith, left, e))
    ]
  ]

  sum_to : (t : Tree ℕ) (c : ℕ) → IsCost product one (0 ∷ []) (only t) c ⊎ IsCost product two (0 ∷ []) (only t) c → IsCost product both (0 ∷ []) (only t) c
  sum_to t c (inl h) = begun laws both 0 1 (omega arith) refl t c (moved_cost product (λ q. 1 + q) one both to_one 0 (only t) c h)
  sum_to t c (inr h) =
      let plain : 1 + n + 0 ≡ 1 + n = omega arith in
      begun laws both 1 (1 + n) (omega arith) refl t c (subst (λ q. IsCost product both (q ∷ []) (only t) c) plain (moved_cost product (λ q. 1 + n + q) two both to_two 0 (only t) c h))

  sum_from : (t : Tree ℕ) (c : ℕ) → IsCost product both (0 ∷ []) (only t) c → IsCost product one (0 ∷ []) (only t) c ⊎ IsCost product two (0 ∷ []) (only t) c
  sum_from t c h =
      let b = below_start laws both (λ q. (q ≡ 1) ⊎ (q ≡ 1 + n)) chains t c h in
      elim b.1 [
        | inl e ↦ inl (cost_back product (λ q. 1 + q) one both n low from_one 0 some (only t) c (subst (λ q. IsCost product both (q ∷ []) (only t) c) e b.2))
        | inr e ↦
            let plain : b.0 ≡ 1 + n + 0 = omega (arith, e) in
            inr (cost_back product (λ q. 1 + n + q) two both m high from_two 0 more (only t) c (subst (λ q. IsCost product both (q ∷ []) (only t) c) plain b.2))
      ]

  -- the sum gives each tree the lesser cost
  pub lesser_series : HasLesserSeries product one two both
  lesser_series t a b v x y =
      let least : IsLeast (IsCost product both (0 ∷ []) (only t)) (lesser a b) = IsLeast-same (sum_to t) (sum_from t) (IsLeast-either x y) in
      (λ h. IsLeast-unique h least, λ e. subst (IsLeast (IsCost product both (0 ∷ []) (only t))) (sym e) least)

pub sum_series : {levelled weighted : Bool} {product : ℕ → ℕ → ℕ} → ProductLaws levelled weighted product → SumHasLesserSeries product
sum_series laws one two some low more high = lesser_series laws (length one.names) (length two.names) one.rules two.rules some more low high
