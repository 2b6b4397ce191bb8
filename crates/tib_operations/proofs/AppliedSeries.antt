-- Forward and backward application to grammars with the same series have the same series.
use Rattle.std.proofs.Common.{ℕ, ◌≤◌, Bool, List, [], ◌∷◌, refl, arith, Option}
use Rattle.std.specs.Prelude.{Some, None}
use Rattle.tib_tree.specs.Trees.{Tree, only}
use Rattle.tib_cost.specs.Least.{IsLeast}
use Rattle.tib_cost.specs.Semiring.{ProductLaws, most}
use Rattle.tib_cost.proofs.Least.{IsLeast-dominated, at_least_right, grows_both}
use Rattle.tib_grammar.specs.Forms.{AreNormal}
use Rattle.tib_grammar.specs.Series.{IsSeries, HaveSameSeries}
use Rattle.tib_grammar.specs.declared.Rule.{Rule}
use Rattle.tib_grammar.proofs.Best.{best, best-is_least}
use Rattle.tib_transducer.specs.declared.TransducerRule.{TransducerRule}
use Rattle.tib_apply.specs.Forward.{IsForwardCost}
use Rattle.tib_apply.specs.Backward.{IsBackwardCost}
use Rattle.tib_operations.specs.Forward.{HasForwardSeries}
use Rattle.tib_operations.specs.Backward.{HasBackwardSeries}

-- where two sets have one least cost, each cost of the one has one of the other that is not greater
least_both : {S T : ℕ → Type 0} (v : Option ℕ) → IsLeast S v → IsLeast T v → (c : ℕ) → S c → c ≤ most → (m : ℕ) × T m × (m ≤ c)
least_both None h k c s b = absurd (h.lower c s b)
least_both (Some m) h k c s b = (m, k.attained.0, h.lower c s b)

module _ {levelled weighed : Bool} {product : ℕ → ℕ → ℕ} (laws : ProductLaws levelled weighed product) (moves : List (TransducerRule ℕ)) where
  -- on each tree both have one series
  module _ (one two : List (Rule ℕ)) (each : (t : Tree ℕ) → (v : Option ℕ) × IsSeries product one t v × IsSeries product two t v) where
    forward_down : (u : Tree ℕ) (c : ℕ) → IsForwardCost product one moves 0 0 u c → c ≤ most → (d : ℕ) × IsForwardCost product two moves 0 0 u d × (d ≤ c)
    forward_down u c h b =
        let e = each h.input in
        let l = least_both e.0 e.1 e.2 h.yielded h.first (omega (arith, laws.at_least h.yielded h.moved, h.costs, b)) in (
          product l.0 h.moved,
          record { input = h.input; yielded = l.0; moved = h.moved; first = l.1; second = h.second; costs = refl },
          omega (arith, grows_both laws l.0 h.moved h.yielded h.moved l.2 (omega arith), h.costs),
        )

    backward_down : (t : Tree ℕ) (c : ℕ) → IsBackwardCost product moves one 0 0 t c → c ≤ most → (d : ℕ) × IsBackwardCost product moves two 0 0 t d × (d ≤ c)
    backward_down t c h b =
        let e = each h.output in
        let l = least_both e.0 e.1 e.2 h.yielded h.second (omega (arith, at_least_right laws h.moved h.yielded, h.costs, b)) in (
          product h.moved l.0,
          record { output = h.output; moved = h.moved; yielded = l.0; first = h.first; second = l.1; costs = refl },
          omega (arith, grows_both laws h.moved l.0 h.moved h.yielded (omega arith) l.2, h.costs),
        )

  module _ (rules form : List (Rule ℕ)) (normal : AreNormal form) (same : HaveSameSeries product rules form) where
    of_rules : (t : Tree ℕ) → (v : Option ℕ) × IsSeries product rules t v × IsSeries product form t v
    of_rules t =
        let v : Option ℕ = best product form (only t) (0 ∷ []) in
        let is = best-is_least laws form normal (only t) (0 ∷ []) in
        (v, (same t v).1 is, is)

    of_form : (t : Tree ℕ) → (v : Option ℕ) × IsSeries product form t v × IsSeries product rules t v
    of_form t = let r = of_rules t in (r.0, r.2, r.1)

    -- what has the series of a grammar in normal form has that of the grammar that it was made of
    pub forward_of_form : (new : List (Rule ℕ)) → HasForwardSeries product form moves new → HasForwardSeries product rules moves new
    forward_of_form new is u v = (
      λ h. IsLeast-dominated (forward_down form rules of_form u) (forward_down rules form of_rules u) ((is u v).0 h),
      λ h. (is u v).1 (IsLeast-dominated (forward_down rules form of_rules u) (forward_down form rules of_form u) h),
    )

    pub backward_of_form : (new : List (Rule ℕ)) → HasBackwardSeries product moves form new → HasBackwardSeries product moves rules new
    backward_of_form new is t v = (
      λ h. IsLeast-dominated (backward_down form rules of_form t) (backward_down rules form of_rules t) ((is t v).0 h),
      λ h. (is t v).1 (IsLeast-dominated (backward_down rules form of_rules t) (backward_down form rules of_form t) h),
    )
