use Rattle.std.proofs.Common.{◌≡◌, [], drop}
use Rattle.tib_determinize.specs.Stepped.{IsUnderway, IsWithinBudget}
use Rattle.tib_determinize.specs.Tries.{leaf_tries}
use Rattle.tib_determinize.proofs.residuals.Residuals.list_leaves.Given as goal

abbrev pub invariant-loop-i : goal.invariant-loop-i
invariant-loop-i g l = record {
  listed : IsUnderway g.S.Semiring.product l.self.normal.now.rules [] (leaf_tries l.shapes) (leaf_tries (drop l.i l.shapes)) l.initial.listing l.listing;
  within : IsWithinBudget l.listing;
  budget : l.listing.budget ≡ l.initial.listing.budget;
}
