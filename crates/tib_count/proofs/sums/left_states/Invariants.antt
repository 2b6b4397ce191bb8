use Rattle.std.proofs.Common.{◌≡◌, take}
use Rattle.tib_count.specs.Sums.{lefts}
use Rattle.tib_count.proofs.sums.left_states.Given as goal

abbrev pub invariant-loop-rule : goal.invariant-loop-rule
invariant-loop-rule l = l.states.items ≡ lefts (take l.rule-index l.rules)
