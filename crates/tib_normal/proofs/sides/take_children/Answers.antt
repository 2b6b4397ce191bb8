use Rattle.std.proofs.Common.{arith}
use Rattle.tib_normal.proofs.Placing.{taken-one}
use Rattle.tib_normal.proofs.sides.take_children.Goals as goal

pub loop-preserved : goal.loop-preserved
loop-preserved c =
    let next = taken-one c.loop.counter c.args.label c.args.stack.now.items c.loop.stack.items c.pop.new.self.items c.loop.side.items c.push-in-loop.new.self.items c.in-Some.state c.loop.invariant.left c.in-Some.ensures.items c.loop.invariant.taken c.in_ok-push-2.ensures.items in
    record { within = omega arith; taken = next.0; left = next.1 }
