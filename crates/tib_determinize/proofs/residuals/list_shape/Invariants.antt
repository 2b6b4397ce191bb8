use Rattle.std.proofs.Common.{◌≡◌, ◌-◌}
use Rattle.tib_determinize.specs.Stepped.{IsUnderway, IsWithinBudget}
use Rattle.tib_determinize.specs.Tries.{by_last, behind_label}
use Rattle.tib_determinize.proofs.residuals.list_shape.Given as goal

abbrev pub invariant-loop-last : goal.invariant-loop-last
invariant-loop-last g l = record {
  listed : IsUnderway g.S.Semiring.product l.walk.rules.now l.walk.order.now (behind_label l.walk.label (by_last l.walk.position l.walk.rank 0 l.walk.rank)) (behind_label l.walk.label (by_last l.walk.position l.walk.rank l.last (l.walk.rank - l.last))) l.initial.listing l.listing;
  within : IsWithinBudget l.listing;
  budget : l.listing.budget ≡ l.initial.listing.budget;
}
