use Rattle.std.proofs.Common.{◌≡◌, take}
use Rattle.tib_inside.specs.Settling.{costs_in}
use Rattle.tib_inside.specs.Reaching.{lives}
use Rattle.tib_inside.proofs.reaching.live_rules.Given as goal

abbrev pub invariant-loop-rule : goal.invariant-loop-rule
invariant-loop-rule g l = l.live.items ≡ lives g.S.Semiring.product (costs_in l.costs) (take l.rule-index l.rules)
