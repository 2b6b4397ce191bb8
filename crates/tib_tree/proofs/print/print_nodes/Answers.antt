use Rattle.std.proofs.Common.{arith, refl}
use Rattle.tib_tree.proofs.Printing.{starts, next, fails, closes_all}
use Rattle.tib_tree.proofs.print.print_nodes.Goals as goal

pub loop-i-init : goal.loop-i-init
loop-i-init g c = record { within = omega arith; so_far = starts c.args.labels.now _ c.args.nodes.now }

pub loop-i-preserved : goal.loop-i-preserved
loop-i-preserved g c = record {
  within = omega (arith, c.loop-i-test.true);
  so_far = next c.args.labels.now _ _ _ c.loop-i.above c.loop-i.i _ c.args.nodes.now _ _ c.loop-i-test.true c.in-Ok.is c.loop-i.invariant.so_far c.print_node.ensures;
}

pub returns-in-Err : goal.returns-in-Err
returns-in-Err g c = fails c.args.labels.now _ _ _ c.loop-i.above c.loop-i.i _ c.args.nodes.now _ _ _ _ c.loop-i-test.true c.in-Err.is refl c.loop-i.invariant.so_far c.print_node.ensures

pub returns : goal.returns
returns g c = closes_all c.args.labels.now _ _ _ c.loop-i.above c.loop-i.i c.args.nodes.now _ c.loop-i-test.false c.loop-i.invariant.so_far c.print_closes.ensures
