use Rattle.tib_weigh.specs.Shapes.{IsIndex}
use Rattle.tib_weigh.proofs.index.Index.new.Given as goal

abbrev pub invariant-loop-rule : goal.invariant-loop-rule
invariant-loop-rule g l = IsIndex g.S.Semiring.product l.normal.rules l.index
