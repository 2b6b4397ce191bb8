use Rattle.tib_grammar_file.specs.Weight.{too_large}
use Rattle.std.proofs.Common.{length, ◌-◌, ◌≤◌}
use Rattle.tib_grammar_file.proofs.Weights.{Value}
use Rattle.tib_grammar_file.proofs.weight.read_whole.Given as goal

abbrev pub invariant-loop-at : goal.invariant-loop-at
invariant-loop-at l = record {
  within : l.at ≤ length l.text;
  small : l.value ≤ too_large;
  value : Value l.text l.value l.at;
}

abbrev pub decreases-loop-at : goal.decreases-loop-at
decreases-loop-at l = length l.text - l.at
