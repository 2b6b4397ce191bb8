-- Runs of two grammars and of both side by side.
use Rattle.std.specs.Prelude.{◌≡◌, ◌↔◌, ◌⊎◌, ℕ, ◌+◌, ◌<◌, max, List, [], ◌∷◌, ◌++◌, length, map, Option}
use Rattle.std.proofs.Common.{arith, ap, sym, ◌∙◌, subst, inl, inr}
use Rattle.tib_lex.specs.Lists.{Has}
use Rattle.tib_lex.proofs.Lists.{has_mapped, mapped_has}
use Rattle.tib_lex.proofs.Members.{has_at, at_has, has_left, has_right, has_either}
use Rattle.tib_tree.specs.Trees.{Tree, only}
use Rattle.tib_grammar.specs.Run.{rule_at, no_rule, IsCost, AreFree}
use Rattle.tib_grammar.specs.Series.{IsSeriesAt}
use Rattle.tib_grammar.specs.Forms.{IsNormalSide, AreNormal}
use Rattle.tib_grammar.specs.Range.{AllBelow, AreInRange}
use Rattle.tib_grammar.specs.declared.Rule.{Rule}
use Rattle.tib_grammar.proofs.Sides.{holes_of-label}
use Rattle.tib_grammar.proofs.NormalRuns.{label_named}
use Rattle.tib_cost.specs.Semiring.{boolean_laws}
use Rattle.tib_cost.proofs.Least.{IsLeast-same}
use Rattle.tib_ranked_trees.specs.Levels.{states_of}
use Rattle.tib_compare.specs.Beside.{moved, raised, beside, KeepBoth}
use Rattle.tib_compare.proofs.Mirrored.{IsMirrored, Mirrors, carried}
use Rattle.tib_compare.proofs.Raising.{IsRaised, along_raised, along_lowered, along_lowered_below, moved_normal, normal_from, moved_forth, moved_back}
use Rattle.tib_compare.proofs.Bounds.{HasRun, run_free}

-- the states below a rule in normal form are in range
pub states_below : (n : ℕ) (rules : List (Rule ℕ)) → AreNormal rules → AreInRange n rules → (r : Rule ℕ) → Has rules r → (r.left < n) × AllBelow n (states_of r)
states_below n rules normal range r h =
    let at = at_has rules r no_rule h in
    let f = label_named (rule_at rules at.0).right.label (normal at.0 at.1).is_label in
    let low : AllBelow n (states_of (rule_at rules at.0)) =
    subst (AllBelow n) (holes_of-label (rule_at rules at.0).right.label (rule_at rules at.0).right.kids f.0 f.1) (range at.0 at.1).1
    in
    subst (λ (s : Rule ℕ). (s.left < n) × AllBelow n (states_of s)) at.2 ((range at.0 at.1).0, low)

side_normal : (rules : List (Rule ℕ)) → AreNormal rules → (r : Rule ℕ) → Has rules r → IsNormalSide r.right
side_normal rules normal r h = let at = at_has rules r no_rule h in subst (λ (s : Rule ℕ). IsNormalSide s.right) at.2 (normal at.0 at.1)

-- rules that are raised are in normal form, and free
raised_is : (by : ℕ) (rules : List (Rule ℕ)) (s : Rule ℕ) → Has (raised by rules) s → IsNormalSide s.right × (s.cost ≡ 0)
raised_is by rules s h =
    let m = has_mapped (λ (r : Rule ℕ). moved (by + r.left) by 0 r) rules s h in
    (subst (λ (x : Rule ℕ). IsNormalSide x.right) m.2 (moved_normal (by + m.0.left) by 0 m.0), sym (ap (λ (x : Rule ℕ). x.cost) m.2))

module _ (first : ℕ) (left right : List (Rule ℕ)) where
  beside_is : (s : Rule ℕ) → Has (beside first left right) s → IsNormalSide s.right × (s.cost ≡ 0)
  beside_is s h = elim (has_either (raised 0 left) (raised first right) s h) [ inl k ↦ raised_is 0 left s k | inr k ↦ raised_is first right s k ]

  pub beside_normal : AreNormal (beside first left right)
  beside_normal = normal_from (beside first left right) (λ r h. (beside_is r h).0)

  pub beside_free : AreFree (beside first left right)
  beside_free n lt = (beside_is (rule_at (beside first left right) n) (has_at (beside first left right) n no_rule lt)).1

  module _ (normal : AreNormal left) (normal_too : AreNormal right) (range : AreInRange first left) where
    to_left : Mirrors left (beside first left right) (IsRaised 0)
    to_left r h p e =
        subst (IsMirrored (beside first left right) (IsRaised 0) r) (sym e)
        (moved_forth (beside first left right) r (side_normal left normal r h) (0 + r.left) 0 0
        (has_left (raised 0 left) (raised first right) (moved (0 + r.left) 0 0 r) (mapped_has (λ (x : Rule ℕ). moved (0 + x.left) 0 0 x) left r h)))

    to_right : Mirrors right (beside first left right) (IsRaised first)
    to_right r h p e =
        subst (IsMirrored (beside first left right) (IsRaised first) r) (sym e)
        (moved_forth (beside first left right) r (side_normal right normal_too r h) (first + r.left) first 0
        (has_right (raised 0 left) (raised first right) (moved (first + r.left) first 0 r) (mapped_has (λ (x : Rule ℕ). moved (first + x.left) first 0 x) right r h)))

    from_left : Mirrors (beside first left right) left (λ p q. (p ≡ 0 + q) × (q < first))
    from_left s h q e = elim (has_either (raised 0 left) (raised first right) s h) [
      | inl k ↦
          let m = has_mapped (λ (r : Rule ℕ). moved (0 + r.left) 0 0 r) left s k in
          let b = states_below first left normal range m.0 m.1 in
          let at : 0 + m.0.left ≡ s.left = ap (λ (x : Rule ℕ). x.left) m.2 in
          let same : m.0.left ≡ q = omega (arith, at, e.0) in
          subst (IsMirrored left (λ p q. (p ≡ 0 + q) × (q < first)) s) same
          (moved_back left (λ p q. (p ≡ 0 + q) × (q < first)) m.0 s (side_normal left normal m.0 m.1) m.1 (0 + m.0.left) 0 0 m.2 (along_lowered_below 0 first (states_of m.0) b.1))
      | inr k ↦
          let m = has_mapped (λ (r : Rule ℕ). moved (first + r.left) first 0 r) right s k in
          let at : first + m.0.left ≡ s.left = ap (λ (x : Rule ℕ). x.left) m.2 in
          absurd (omega (arith, at, e.0, e.1))
    ]

    from_right : Mirrors (beside first left right) right (λ p q. p ≡ first + q)
    from_right s h q e = elim (has_either (raised 0 left) (raised first right) s h) [
      | inl k ↦
          let m = has_mapped (λ (r : Rule ℕ). moved (0 + r.left) 0 0 r) left s k in
          let b = states_below first left normal range m.0 m.1 in
          let at : 0 + m.0.left ≡ s.left = ap (λ (x : Rule ℕ). x.left) m.2 in
          absurd (omega (arith, at, e, b.0))
      | inr k ↦
          let m = has_mapped (λ (r : Rule ℕ). moved (first + r.left) first 0 r) right s k in
          let at : first + m.0.left ≡ s.left = ap (λ (x : Rule ℕ). x.left) m.2 in
          let same : m.0.left ≡ q = omega (arith, at, e) in
          subst (IsMirrored right (λ p q. p ≡ first + q) s) same
          (moved_back right (λ p q. p ≡ first + q) m.0 s (side_normal right normal_too m.0 m.1) m.1 (first + m.0.left) first 0 m.2 (along_lowered first (states_of m.0)))
    ]

    -- runs of each grammar are runs of both side by side, and the other way round
    pub left_runs : (q : ℕ) → q < first → (t : Tree ℕ) → HasRun left q t ↔ HasRun (beside first left right) q t
    left_runs q low t = (
      λ h. let e : q ≡ 0 + q = omega arith in carried boolean_laws boolean_laws left (beside first left right) normal beside_normal (IsRaised 0) to_left (only t) (q ∷ []) (q ∷ []) (e, tt) h.0 h.1,
      λ h. let e : q ≡ 0 + q = omega arith in
          carried boolean_laws boolean_laws (beside first left right) left beside_normal normal (λ p q. (p ≡ 0 + q) × (q < first)) from_left (only t) (q ∷ []) (q ∷ []) ((e, low), tt) h.0 h.1,
    )

    pub right_runs : (q : ℕ) (t : Tree ℕ) → HasRun right q t ↔ HasRun (beside first left right) (first + q) t
    right_runs q t = (
      λ h. let e : first + q ≡ first + q = omega arith in
          carried boolean_laws boolean_laws right (beside first left right) normal_too beside_normal (IsRaised first) to_right (only t) (q ∷ []) ((first + q) ∷ []) (e, tt) h.0 h.1,
      λ h. let e : first + q ≡ first + q = omega arith in
          carried boolean_laws boolean_laws (beside first left right) right beside_normal normal_too (λ p q. p ≡ first + q) from_right (only t) ((first + q) ∷ []) (q ∷ []) (e, tt) h.0 h.1,
    )

-- free rules that have runs for the same trees have the same series
same_runs :
    (one two : List (Rule ℕ)) → AreNormal one → AreNormal two → AreFree one → AreFree two → (q p : ℕ) (t : Tree ℕ) → HasRun one q t ↔ HasRun two p t →
    (v : Option ℕ) → IsSeriesAt max one q t v ↔ IsSeriesAt max two p t v
same_runs one two normal normal_too free free_too q p t e v = (λ h. IsLeast-same to from h, λ h. IsLeast-same from to h)
  where
    to : (c : ℕ) → IsCost max one (q ∷ []) (only t) c → IsCost max two (p ∷ []) (only t) c
    to c h =
        let r = e.0 (c, h) in
        let same : r.0 ≡ c = run_free two normal_too free_too p t r.0 r.1 ∙ sym (run_free one normal free q t c h) in
        subst (λ d. IsCost max two (p ∷ []) (only t) d) same r.1

    from : (c : ℕ) → IsCost max two (p ∷ []) (only t) c → IsCost max one (q ∷ []) (only t) c
    from c h =
        let r = e.1 (c, h) in
        let same : r.0 ≡ c = run_free one normal free q t r.0 r.1 ∙ sym (run_free two normal_too free_too p t c h) in
        subst (λ d. IsCost max one (q ∷ []) (only t) d) same r.1

pub keep_both :
    (first : ℕ) (left right : List (Rule ℕ)) → AreNormal left → AreNormal right → AreFree left → AreFree right → AreInRange first left → KeepBoth first left right
keep_both first left right normal normal_too free free_too range = record {
  of_left = λ q low t v.
      same_runs left (beside first left right) normal (beside_normal first left right) free (beside_free first left right) q q t
      (left_runs first left right normal normal_too range q low t) v;
  of_right = λ q t v.
      same_runs right (beside first left right) normal_too (beside_normal first left right) free_too (beside_free first left right) q (first + q) t
      (right_runs first left right normal normal_too range q t) v;
}
