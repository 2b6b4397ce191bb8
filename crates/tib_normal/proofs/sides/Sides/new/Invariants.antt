use Rattle.std.proofs.Common.{◌+◌, ◌≤◌, ◌≡◌, [], take, drop, length}
use Rattle.std.specs.Prelude.{sum_by, reverse}
use Rattle.tib_grammar.specs.ShapeBuckets.{lists_of}
use Rattle.tib_normal.specs.NormalForm.{all_inner}
use Rattle.tib_normal.specs.Places.{rule_labels}
use Rattle.tib_normal.proofs.Numbering.{AreNumberedFrom}
use Rattle.tib_normal.proofs.sides.Sides.new.Given as goal

abbrev pub invariant-loop-n : goal.invariant-loop-n
invariant-loop-n l = record {
  within : l.n ≤ length l.rules;
  counted : l.state ≡ l.states + sum_by rule_labels (take l.n l.rules);
  inner : reverse l.sides.inner.items ≡ all_inner l.state (drop l.n l.rules);
  empty : l.stack.items ≡ [];
  numbered : AreNumberedFrom l.states l.rules l.n (lists_of l.sides.table.keys) l.sides.numbers.items;
}

abbrev pub decreases-loop-n : goal.decreases-loop-n
decreases-loop-n l = l.n
