-- Each kept state but the start has a rule that is kept.
use Rattle.std.proofs.Common.{◌≡◌, ◌⊎◌, ℕ, ◌<◌, ◌≤◌, List, [], ◌∷◌, ◌++◌, length, get_or, refl, ap, sym, ◌∙◌, subst, arith, zero, suc, inl, inr, length-append, Option, Bool}
use Rattle.std.specs.Prelude.{None, Some}
use Rattle.std.proofs.lemmas.List.{get_or_append_left}
use Rattle.std.proofs.Math.Seq.{get_or-append_seam}
use Rattle.tib_lex.proofs.Numbers.{same_or_other, below_cases}
use Rattle.tib_lex.specs.Lists.{Has, Along}
use Rattle.tib_tree.specs.Trees.{Trees, none, tree}
use Rattle.tib_grammar.specs.Sides.{holes_of}
use Rattle.tib_grammar.specs.GrammarOf.{GrammarOf}
use Rattle.tib_grammar.specs.Range.{AreInRange, IsLeftIn}
use Rattle.tib_grammar.specs.Run.{rule_at, AreRuns, cost}
use Rattle.tib_grammar.specs.declared.Rule.{Rule}
use Rattle.tib_cost.specs.Semiring.{ProductLaws, most}
use Rattle.tib_normal.proofs.Existing.{has_least}
use Rattle.tib_inside.specs.Inside.{IsRunCost, IsInside, AreInsides}
use Rattle.tib_inside.specs.Settling.{costs_in}
use Rattle.tib_inside.specs.Trimmed.{IsTrimmed}
use Rattle.tib_inside.specs.Useful.{IsLive, IsUseful}
use Rattle.tib_inside.specs.Useful as useful
use Rattle.tib_inside.proofs.Chosen.{ascends_at}
use Rattle.tib_inside.proofs.Keeping.{as_many, named_at}
use Rattle.tib_inside.proofs.Living.{insides_all, live_by_runs}
use Rattle.tib_canon.proofs.TrimmedOnce.{place_told}
use Rattle.tib_lex.proofs.Members.{has_at, at_has}
use Rattle.tib_grammar.proofs.Below.{below_has}

module _ (product : ℕ → ℕ → ℕ) (rules : List (Rule ℕ)) where
  insides_more : (costs : List (Option ℕ)) (v : Option ℕ) → AreInsides product rules costs → IsInside product rules (length costs) v → AreInsides product rules (costs ++ v ∷ [])
  insides_more costs v are i q h = elim (below_cases q (length costs) (omega (arith, length-append costs (v ∷ [])))) [
    | inl k ↦ subst (IsInside product rules q) (sym (get_or_append_left costs (v ∷ []) None q k)) (are q k)
    | inr e ↦ subst (λ p. IsInside product rules p (get_or (costs ++ v ∷ []) p None)) (sym e) (subst (IsInside product rules (length costs)) (sym (get_or-append_seam costs v [] None)) i)
  ]

  -- it is impossible that the states below a number have no inside costs
  pub insides_are : (count : ℕ) → ((costs : List (Option ℕ)) → length costs ≡ count → AreInsides product rules costs → ⊥) → ⊥
  insides_are zero k = k [] refl (λ q h. absurd (omega arith))
  insides_are (suc n) k =
      insides_are n (λ costs long are.
      has_least (IsRunCost product rules (length costs ∷ [])) (λ v i. k (costs ++ v ∷ []) (omega (arith, length-append costs (v ∷ []), long)) (insides_more costs v are i)))

  inside_along : (qs cs : List ℕ) (q : ℕ) → Along (λ p c. IsInside product rules p (Some c)) qs cs → Has qs q → (c : ℕ) × IsInside product rules q (Some c)
  inside_along [] cs q a h = absurd h
  inside_along (p ∷ qs) [] q a h = absurd a
  inside_along (p ∷ qs) (c ∷ cs) q a h = elim h [
    | inl e ↦ (c, subst (λ (x : ℕ). IsInside product rules x (Some c)) e a.0)
    | inr k ↦ inside_along qs cs q a.1 k
  ]

  -- a useful state has an inside cost
  useful_inside : (q : ℕ) → IsUseful product rules q → (c : ℕ) × IsInside product rules q (Some c)
  useful_inside _ (useful.start c i) = (c, i)
  useful_inside _ (useful.below n q u l s) = inside_along (holes_of (rule_at rules n).right) l.insides q l.are_insides s

  -- and it is in range
  pub useful_below : (count : ℕ) → 0 < count → AreInRange count rules → (q : ℕ) → IsUseful product rules q → q < count
  useful_below count some range _ (useful.start c i) = some
  useful_below count some range _ (useful.below n q u l s) = below_has count (holes_of (rule_at rules n).right) q (range n l.below).1 s

  -- it is impossible that no live rule is one of a useful state
  live_of :
      {levelled weighted : Bool} → ProductLaws levelled weighted product → (count : ℕ) → AreInRange count rules → (q : ℕ) → IsUseful product rules q → ((n : ℕ) → IsLive product rules n → (rule_at rules n).left ≡ q → ⊥) → ⊥
  live_of laws count range q u k =
      let c = useful_inside q u in
      insides_are count (λ costs long are.
      by c.1.attained.0.runs c.1.attained.0.are_runs (omega (arith, c.1.attained.1, c.1.attained.0.costs)) costs
      (insides_all product rules costs (subst (λ n. AreInRange n rules) (sym long) range) are))
    where
      by : (runs : Trees ℕ) → AreRuns rules (q ∷ []) runs → cost product rules runs ≤ most → (costs : List (Option ℕ)) → ((p : ℕ) → IsInside product rules p (costs_in costs p)) → ⊥
      by none a m costs all = a
      by (tree n inner rest) a m costs all =
          let first : ℕ = product (rule_at rules n).cost (cost product rules inner) in
          let less : first ≤ product first (cost product rules rest) = laws.at_least first (cost product rules rest) in
          k n (live_by_runs laws rules (costs_in costs) all n inner a.0 a.2 (omega (arith, less, m))) a.1

-- whether a state has a rule can be seen

not_left : (r : Rule ℕ) (rules : List (Rule ℕ)) (q : ℕ) → (r.left ≡ q → ⊥) → (IsLeftIn rules q → ⊥) → IsLeftIn (r ∷ rules) q → ⊥
not_left r rules q other others (zero, h, e) = other e
not_left r rules q other others (suc n, h, e) = others (n, omega arith, e)

left_or_not : (rules : List (Rule ℕ)) (q : ℕ) → IsLeftIn rules q ⊎ (IsLeftIn rules q → ⊥)
left_or_not [] q = inr (λ x. omega (arith, x.1))
left_or_not (r ∷ rules) q = elim (same_or_other r.left q) [
  | inl e ↦ inl (0, omega arith, e)
  | inr other ↦ elim (left_or_not rules q) [
    | inl x ↦ inl (suc x.0, omega (arith, x.1), x.2)
    | inr others ↦ inr (not_left r rules q other others)
  ]
]

module _
    {levelled weighted : Bool} {product : ℕ → ℕ → ℕ} (laws : ProductLaws levelled weighted product) (g h : GrammarOf) (t : IsTrimmed product g h) (count : ℕ) (some : 0 < count)
    (range : AreInRange count g.rules) where
  state_below : (q : ℕ) → Has t.states q → q < count
  state_below q s = elim ((t.are_states q).0 s) [ inl e ↦ omega (arith, e, some) | inr u ↦ useful_below product g.rules count some range q u ]

  place_least : (i : ℕ) → i < length t.states → i ≤ get_or t.states i 0
  place_least zero h = omega arith
  place_least (suc i) h = omega (arith, ascends_at ◌<◌ t.states 0 t.states_ascend i (suc i) (omega arith) h, place_least i (omega arith))

  -- no more states are kept than there are
  pub few_states : length t.states ≤ count
  few_states = by (length t.states) refl
    where
      by : (n : ℕ) → length t.states ≡ n → n ≤ count
      by zero e = omega arith
      by (suc n) e = omega (arith, place_least n (omega (arith, e)), state_below (get_or t.states n 0) (has_at t.states n 0 (omega (arith, e))))

  pub some_states : 0 < length t.states
  some_states = let at = at_has t.states 0 0 ((t.are_states 0).1 (inl refl)) in omega (arith, at.1)

  other_useful : (q : ℕ) → 0 < q → q < length t.states → IsUseful product g.rules (get_or t.states q 0)
  other_useful q some within = elim ((t.are_states (get_or t.states q 0)).0 (has_at t.states q 0 within)) [
    | inl e ↦ let more : get_or t.states 0 0 < get_or t.states q 0 = ascends_at ◌<◌ t.states 0 t.states_ascend 0 q some within in absurd (omega (arith, more, e))
    | inr u ↦ u
  ]

  -- a live rule of a state that is kept is kept
  kept_left : (q n : ℕ) → q < length t.states → IsLive product g.rules n → IsUseful product g.rules (get_or t.states q 0) → (rule_at g.rules n).left ≡ get_or t.states q 0 → IsLeftIn h.rules q
  kept_left q n within l u e =
      let at = at_has t.rules n 0 ((t.are_rules n).1 (l, subst (IsUseful product g.rules) (sym e) u)) in
      let below : at.0 < length h.rules = omega (arith, as_many product g h t, at.1) in
      let named : get_or t.states (rule_at h.rules at.0).left 0 ≡ get_or t.states q 0 =
      ap (λ (r : Rule ℕ). r.left) (named_at product g h t at.0 below) ∙ ap (λ (m : ℕ). (rule_at g.rules m).left) at.2 ∙ e in
      (at.0, below, place_told t.states (rule_at h.rules at.0).left q t.states_ascend (t.in_range at.0 below).0 within named)

  -- each state that is kept except the start has a rule that is kept
  pub states_have_rules : (q : ℕ) → 0 < q → q < length t.states → IsLeftIn h.rules q
  states_have_rules q some within =
      let u = other_useful q some within in
      elim (left_or_not h.rules q) [
        | inl x ↦ x
        | inr without ↦ absurd (live_of product g.rules laws count range (get_or t.states q 0) u (λ n l e. without (kept_left q n within l u e)))
      ]
