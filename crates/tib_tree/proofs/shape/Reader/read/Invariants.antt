use Rattle.std.proofs.Common.{◌≡◌, ℕ, ◌≤◌, ◌+◌, List, length, drop, Some}
use Rattle.tib_lex.specs.Line.{words_at, Lies}
use Rattle.tib_tree.specs.Machine.{machine}
use Rattle.tib_tree.specs.Shape.{state_of, PlaceLies}
use Rattle.tib_tree.specs.Shaped.{IsShaped}
use Rattle.std.specs.List.{All}
use Rattle.tib_tree.proofs.shape.Reader.read.Given as goal

abbrev pub invariant-loop-i : goal.invariant-loop-i
invariant-loop-i l = record {
  within : l.i ≤ length l.tokens;
  read : (line : List ℕ) → machine (words_at line (drop l.i l.tokens)) ≡ Some (state_of line l.self);
  places : (long : ℕ) → All (Lies long) l.tokens → All (PlaceLies long) l.self.places.items;
  shaped : IsShaped l.self;
  nodes : length l.self.places.items + l.i ≤ length l.tokens;
  levels : length l.self.above.items + l.i ≤ length l.tokens;
}

abbrev pub decreases-loop-i : goal.decreases-loop-i
decreases-loop-i l = l.i
