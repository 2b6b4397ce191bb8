use Rattle.std.proofs.Common.{arith, sym, ◌∙◌}
use Rattle.tib_match.proofs.ColumnSteps.{along_next, along_all, other_long}
use Rattle.tib_match.proofs.columns.product_along.Goals as goal

pub returns-then-columns-states : goal.returns-then-columns-states
returns-then-columns-states g c = other_long g.S.Semiring.product c.args.columns.now c.args.states.now c.if-columns-states.true

pub loop-i-preserved : goal.loop-i-preserved
loop-i-preserved g c = record {
  within = omega (arith, c.loop-i-test.true);
  total = c.product_of-total.ensures
      ∙ along_next g.S.Semiring.product c.args.columns.now c.args.states.now c.loop-i.i c.index-columns-i.result c.loop-i.total c.at.result c.state-state.result _ c.loop-i-test.true c.if-columns-states.false
      (sym c.index-columns-i.is) c.at.ensures c.state-state.ensures c.loop-i.invariant.total;
}

pub returns : goal.returns
returns g c = c.loop-i.invariant.total ∙ along_all g.S.Semiring.product c.args.columns.now c.args.states.now c.loop-i.i c.loop-i-test.false c.if-columns-states.false
