use Rattle.std.proofs.Common.{◌≤◌, ◌-◌}
use Rattle.tib_grammar.specs.Items.{pairs_of}
use Rattle.tib_match.specs.Counting.{BeginWithHoles}
use Rattle.tib_match.proofs.counting.leading_holes.Given as goal

abbrev pub invariant-loop-many : goal.invariant-loop-many
invariant-loop-many g l = record {
  few : l.many ≤ l.most;
  holes : BeginWithHoles l.many (pairs_of l.items);
}

abbrev pub decreases-loop-many : goal.decreases-loop-many
decreases-loop-many g l = l.most - l.many
