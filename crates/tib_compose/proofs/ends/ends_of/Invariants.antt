use Rattle.std.proofs.Common.{◌≡◌, ◌≤◌, length}
use Rattle.tib_grammar.specs.Items.{pairs_of}
use Rattle.tib_compose.specs.Ends.{AreEnds}
use Rattle.tib_compose.proofs.ends.ends_of.Given as goal

abbrev pub invariant-loop-i : goal.invariant-loop-i
invariant-loop-i l = record {
  long : length l.ends.items ≡ length l.items;
  within : l.i ≤ length l.items;
  known : AreEnds (pairs_of l.items) l.ends.items l.i;
}

abbrev pub decreases-loop-i : goal.decreases-loop-i
decreases-loop-i l = l.i
