use Rattle.std.proofs.Common.{length, ◌-◌, ℕ, ◌<◌, ◌≤◌}
use Rattle.tib_grammar.specs.Run.{rule_at}
use Rattle.tib_normal.proofs.index.start_of.Given as goal

abbrev pub invariant-loop-place : goal.invariant-loop-place
invariant-loop-place l = record {
  within : l.place ≤ length l.rules;
  before : (m : ℕ) → m < l.place → (rule_at l.rules m).left < l.q;
}

abbrev pub decreases-loop-place : goal.decreases-loop-place
decreases-loop-place l = length l.rules - l.place
