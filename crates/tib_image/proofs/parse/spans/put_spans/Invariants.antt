use Rattle.std.proofs.Common.{◌≡◌, ◌≤◌, length}
use Rattle.tib_image.proofs.Spanned.{AtFrom}
use Rattle.tib_image.proofs.parse.spans.put_spans.Given as goal

abbrev pub invariant-loop-position : goal.invariant-loop-position
invariant-loop-position l = record {
  within : l.position ≤ length l.tokens;
  long : length l.spans.items ≡ length l.initial.spans.items;
  at : AtFrom l.tokens l.from l.places l.position l.spans.items;
}

abbrev pub decreases-loop-position : goal.decreases-loop-position
decreases-loop-position l = l.position
