use Rattle.std.proofs.Common.{◌≡◌, length}
use Rattle.tib_image.proofs.parse.spans.make_room.Given as goal

abbrev pub invariant-loop : goal.invariant-loop
invariant-loop l = length l.spans.items ≡ l.counter
