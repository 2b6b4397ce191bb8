-- How the weights of a file stand for costs.
use Rattle.std.specs.Prelude.{◌≡◌, ℕ, Bool, true, false, ◌-◌, ◌≤◌, refl}
use Rattle.std.proofs.Common.{arith}
use Rattle.tib_cost.specs.Semiring.{most}
use Rattle.tib_cost.specs.declared.Scale.{Scale}
use Rattle.tib_cost.specs.declared.Scale.TheVariants as scales

-- whether weights are kept
abbrev pub is_weighted : Scale → Bool
is_weighted scales.Unweighted = false
is_weighted scales.Plain = true
is_weighted scales.Reversed = true

-- The cost that a weight stands for: the weight itself, or the greatest cost less the weight. Where
-- no weight is kept it is not used.
abbrev pub cost_in : Scale → ℕ → ℕ
cost_in scales.Unweighted weight = weight
cost_in scales.Plain weight = weight
cost_in scales.Reversed weight = most - weight

-- the weight that stands for a cost
abbrev pub weight_in : Scale → ℕ → ℕ
weight_in scales.Unweighted cost = cost
weight_in scales.Plain cost = cost
weight_in scales.Reversed cost = most - cost

-- each undoes the other
pub weight_of_cost : (scale : Scale) (weight : ℕ) → weight ≤ most →
    weight_in scale (cost_in scale weight) ≡ weight
weight_of_cost scales.Unweighted weight h = refl
weight_of_cost scales.Plain weight h = refl
weight_of_cost scales.Reversed weight h = omega (arith, h)

pub cost_of_weight : (scale : Scale) (cost : ℕ) → cost ≤ most →
    cost_in scale (weight_in scale cost) ≡ cost
cost_of_weight scales.Unweighted cost h = refl
cost_of_weight scales.Plain cost h = refl
cost_of_weight scales.Reversed cost h = omega (arith, h)

-- and stays within the greatest cost
pub cost_within : (scale : Scale) (weight : ℕ) → weight ≤ most → cost_in scale weight ≤ most
cost_within scales.Unweighted weight h = h
cost_within scales.Plain weight h = h
cost_within scales.Reversed weight h = omega arith

pub weight_within : (scale : Scale) (cost : ℕ) → cost ≤ most → weight_in scale cost ≤ most
weight_within scales.Unweighted cost h = h
weight_within scales.Plain cost h = h
weight_within scales.Reversed cost h = omega arith
