use Rattle.std.proofs.Common.{length, ◌≤◌}
use Rattle.tib_normal.proofs.Placing.{IsPlacing}
use Rattle.tib_normal.proofs.sides.place.Given as goal

abbrev pub invariant-loop-i : goal.invariant-loop-i
invariant-loop-i l = record {
  low : 1 ≤ l.i;
  within : l.i ≤ length l.items;
  placing : IsPlacing l.items l.fn.state l.i l.first l.stack.items l.initial.inner.items l.inner.items;
}

abbrev pub decreases-loop-i : goal.decreases-loop-i
decreases-loop-i l = l.i
