use Rattle.std.proofs.Common.{◌≡◌, ◌++◌, drop}
use Rattle.tib_determinize.specs.Alive.{begun}
use Rattle.tib_determinize.proofs.alive.begin.Given as goal

abbrev pub invariant-loop-rule : goal.invariant-loop-rule
invariant-loop-rule g l = l.alive.items ++ begun (drop l.rule-index l.positions) ≡ begun l.positions
