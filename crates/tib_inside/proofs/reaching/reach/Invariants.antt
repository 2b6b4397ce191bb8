use Rattle.std.proofs.Common.{◌≡◌, ◌+◌, length}
use Rattle.std.specs.Prelude.{sum_by}
use Rattle.tib_inside.specs.Reaching.{IsReaching, unmarked}
use Rattle.tib_inside.proofs.reaching.reach.Given as goal

abbrev pub invariant-loop-state : goal.invariant-loop-state
invariant-loop-state l = record {
  long : length l.kept.items ≡ length l.initial.kept.items;
  reaching : IsReaching l.rules l.live l.kept.items l.stack.items;
}

abbrev pub decreases-loop-state : goal.decreases-loop-state
decreases-loop-state l = length l.stack.items + sum_by unmarked l.kept.items
