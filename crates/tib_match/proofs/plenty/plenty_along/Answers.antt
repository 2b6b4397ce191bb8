use Rattle.std.proofs.Common.{sym, ◌∙◌, refl}
use Rattle.tib_match.proofs.PlentySteps.{along_next, along_none, along_all}
use Rattle.tib_match.proofs.plenty.plenty_along.Goals as goal

pub loop-i-preserved : goal.loop-i-preserved
loop-i-preserved g c =
    along_next g.S.Semiring.product c.args.columns.now c.args.states.now c.loop-i.i c.index-columns-i.result c.in-Some.own c.loop-i.total c.in-Some-both.next c.state-state.result _ c.loop-i-test.true c.if-columns-states.false
    (sym c.index-columns-i.is) (sym c.at.ensures ∙ c.in-Some.is) c.state-state.ensures c.loop-i.invariant c.in-Some-both.ensures.count c.in-Some-both.ensures.worst

pub loop-i-init : goal.loop-i-init
loop-i-init g c = along_none g.S.Semiring.product c.args.columns.now c.args.states.now (record { count = 1; worst = c.one.result; last = 0 }) refl c.one.ensures

pub returns : goal.returns
returns g c = along_all g.S.Semiring.product c.args.columns.now c.args.states.now c.loop-i.i c.loop-i.total c.loop-i-test.false c.if-columns-states.false c.loop-i.invariant
