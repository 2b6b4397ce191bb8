use Rattle.std.proofs.Common.{◌≡◌, ◌≤◌, replicate}
use Rattle.tib_match.specs.declared.hole_cost.HoleCost.TheVariants.{Free}
use Rattle.tib_match.proofs.searching.free_holes.Given as goal

abbrev pub invariant-loop-place : goal.invariant-loop-place
invariant-loop-place l = record {
  within : l._place ≤ l.many;
  free : l.free.items ≡ replicate l._place Free;
}
