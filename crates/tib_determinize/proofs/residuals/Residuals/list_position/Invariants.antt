use Rattle.std.proofs.Common.{◌≡◌, drop}
use Rattle.tib_determinize.specs.Stepped.{IsUnderway, IsWithinBudget}
use Rattle.tib_determinize.specs.Tries.{tries}
use Rattle.tib_determinize.proofs.residuals.Residuals.list_position.Given as goal

abbrev pub invariant-loop-i : goal.invariant-loop-i
invariant-loop-i g l = record {
  listed : IsUnderway g.S.Semiring.product l.self.normal.now.rules l.order (tries l.position l.shapes) (tries l.position (drop l.i l.shapes)) l.initial.listing l.listing;
  within : IsWithinBudget l.listing;
  budget : l.listing.budget ≡ l.initial.listing.budget;
}
