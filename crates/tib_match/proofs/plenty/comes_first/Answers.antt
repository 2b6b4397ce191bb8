use Rattle.std.proofs.Common.{arith}
use Rattle.tib_match.proofs.PlentySteps.{first_differs, front_more}
use Rattle.tib_match.proofs.plenty.comes_first.Goals as goal

pub returns-then-here-there : goal.returns-then-here-there
returns-then-here-there c = λ t.
    first_differs c.loop-i.i c.args.front c.args.one.now c.args.two.now _ _ c.state-here.result c.state-there.result c.loop-i-test.true c.if-i-one.true c.if-i-two.true c.loop-i.invariant
    c.state-here.ensures c.state-there.ensures c.if-here-there.true

pub loop-i-preserved : goal.loop-i-preserved
loop-i-preserved c =
    front_more c.loop-i.i c.args.one.now c.args.two.now _ _ c.state-here.result c.state-there.result c.if-i-one.true c.if-i-two.true c.loop-i.invariant
    c.state-here.ensures c.state-there.ensures (omega (arith, c.if-here-there.false, c.if-here-there-2.false))
