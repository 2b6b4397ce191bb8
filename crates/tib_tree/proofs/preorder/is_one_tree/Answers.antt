use Rattle.std.proofs.Common.{arith}
use Rattle.tib_tree.proofs.Preorders.{step, stop}
use Rattle.tib_tree.proofs.preorder.is_one_tree.Goals as goal

pub returns-then-rank-roots-clause-no : goal.returns-then-rank-roots-clause-no
returns-then-rank-roots-clause-no c =
    λ _. stop (0, 0) c.args.items.now c.loop-i.i c.loop-i-test.true c.loop-i.invariant.within (omega arith)

pub loop-i-preserved : goal.loop-i-preserved
loop-i-preserved c =
    let i = c.loop-i.invariant in
    let s = step (0, 0) c.args.items.now c.loop-i.i c.loop-i-test.true i.within i.nested (omega arith) in
    record { within = omega arith; nested = s.0; roots = omega (arith, s.1, i.roots); few = omega (arith, i.few) }
