use Rattle.std.proofs.Common.{◌≡◌, [], drop}
use Rattle.tib_difference.specs.Listing.{IsWithinBudget}
use Rattle.tib_difference.specs.Tries.{leaves_of, leaves_from}
use Rattle.tib_difference.specs.Underway.{IsUnderway}
use Rattle.tib_difference.proofs.walk.list_leaves.Given as goal

abbrev pub invariant-loop-number : goal.invariant-loop-number
invariant-loop-number l = record {
  within : IsWithinBudget l.listing;
  budget : l.listing.budget ≡ l.budget;
  underway : IsUnderway l.first l.second.rules.now [] (leaves_of l.first) (leaves_from l.number (drop l.number l.first)) l.initial.listing l.listing;
}
