use Rattle.std.proofs.Common.{◌≡◌, drop}
use Rattle.tib_difference.specs.Listing.{IsWithinBudget}
use Rattle.tib_difference.specs.Tries.{tries_all}
use Rattle.tib_difference.specs.Underway.{IsUnderway}
use Rattle.tib_difference.proofs.users.list_users.Given as goal

abbrev pub invariant-loop-number : goal.invariant-loop-number
invariant-loop-number l = record {
  within : IsWithinBudget l.listing;
  budget : l.listing.budget ≡ l.budget;
  underway : IsUnderway l.walk.first.now l.walk.second.rules.now l.walk.order.now (tries_all l.walk.first.now l.walk.order.now l.walk.position l.users) (tries_all l.walk.first.now l.walk.order.now l.walk.position (drop l.number l.users)) l.initial.listing l.listing;
}
