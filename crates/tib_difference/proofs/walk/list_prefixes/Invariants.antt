use Rattle.std.proofs.Common.{◌≡◌, length}
use Rattle.tib_lex.specs.Lists.{Each}
use Rattle.tib_difference.specs.Listing.{IsWithinBudget}
use Rattle.tib_difference.specs.Tries.{tries_at, choices_at, states_in, remaining, behind_rule}
use Rattle.tib_difference.specs.Underway.{IsUnderway}
use Rattle.tib_difference.specs.Walks.{IsPrefix, prefixes_of}
use Rattle.tib_difference.proofs.walk.list_prefixes.Given as goal

abbrev pub invariant-loop-turn : goal.invariant-loop-turn
invariant-loop-turn l = record {
  within : IsWithinBudget l.listing;
  budget : l.listing.budget ≡ l.initial.listing.budget;
  prefixes : Each (IsPrefix (length l.walk.order.now) l.rank) (prefixes_of l.stack.items);
  underway : IsUnderway l.walk.first.now l.walk.second.rules.now l.walk.order.now (tries_at l.walk.first.now l.walk.order.now l.walk.position l.walk.rule l.walk.place)
      (behind_rule l.walk.rule (remaining (choices_at (states_in l.walk.first.now l.walk.rule) l.walk.order.now l.walk.position l.walk.place) l.rank (prefixes_of l.stack.items))) l.initial.listing l.listing;
}
