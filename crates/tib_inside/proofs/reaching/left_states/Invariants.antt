use Rattle.std.proofs.Common.{◌≡◌, take}
use Rattle.tib_inside.specs.Reaching.{lefts}
use Rattle.tib_inside.proofs.reaching.left_states.Given as goal

abbrev pub invariant-loop-rule : goal.invariant-loop-rule
invariant-loop-rule l = l.states.items ≡ lefts (take l.rule-index l.rules)
