use Rattle.std.proofs.Common.{◌≡◌, ◌≤◌, replicate}
use Rattle.tib_match.proofs.searching.whole_box.Given as goal

abbrev pub invariant-loop-place : goal.invariant-loop-place
invariant-loop-place l = record {
  within : l._place ≤ l.many;
  spans : l.spans.items ≡ replicate l._place (record { low = 0; high = l.states });
}
