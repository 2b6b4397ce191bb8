use Rattle.std.proofs.Common.{ap}
use Rattle.tib_intersect.proofs.Settled.{settled_reads, settled_positions}
use Rattle.tib_intersect.proofs.expand.PairsExpand.settle.Goals as goal

pub returns-clause-read : goal.returns-clause-read
returns-clause-read g c = λ at. settled_reads at c.args.rule.now c.args.ends.now c.states_at.result.now _ c.states_at.ensures.are (ap (λ s. record { left = c.args.rule.now.position; right = s; cost = c.args.rule.now.cost }) c.in_ok-right.ensures)

pub returns-clause-positions : goal.returns-clause-positions
returns-clause-positions g c = settled_positions c.args.rule.now c.args.ends.now c.states_at.result.now _ c.states_at.ensures.are (ap (λ s. record { left = c.args.rule.now.position; right = s; cost = c.args.rule.now.cost }) c.in_ok-right.ensures)
