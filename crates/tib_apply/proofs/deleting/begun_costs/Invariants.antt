use Rattle.tib_apply.specs.LeastRuns.{AreBegun}
use Rattle.tib_apply.proofs.deleting.begun_costs.Given as goal

abbrev pub invariant-loop-rule : goal.invariant-loop-rule
invariant-loop-rule g l = AreBegun g.S.Semiring.product l.insides l.rules l.rule-index l.begun
