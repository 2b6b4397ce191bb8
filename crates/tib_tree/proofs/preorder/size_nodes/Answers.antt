use Rattle.std.proofs.Common.{arith}
use Rattle.tib_tree.proofs.Sizing.{sized_step, end_within, few_starts}
use Rattle.tib_tree.proofs.preorder.size_nodes.Goals as goal

pub take_starts-end-requires : goal.take_starts-end-requires
take_starts-end-requires c = few_starts c.args.items.now c.loop-i.i (0, 0) _ _ c.loop-i-test.true c.loop-i.invariant.within c.requires.nested c.loop-i.invariant.sized

pub overflow_sub-end : goal.overflow_sub-end
overflow_sub-end c = (end_within c.args.items.now c.loop-i.i (0, 0) _ _ _ c.loop-i-test.true c.loop-i.invariant.within c.requires.nested c.loop-i.invariant.sized c.take_starts-end.ensures.end).0

pub loop-i-preserved : goal.loop-i-preserved
loop-i-preserved c = record {
  within = omega (arith, c.loop-i.invariant.within);
  sized = sized_step c.args.items.now c.loop-i.i (0, 0) c.loop-i.starts.items c.take_starts-end.new.starts.items _ c.loop-i.back.items _ c.take_starts-end.result c.loop-i-test.true c.loop-i.invariant.within c.requires.nested c.loop-i.invariant.sized c.take_starts-end.ensures.kept c.take_starts-end.ensures.end c.in_ok-push-3.ensures.items c.in_ok-push-2.ensures.items;
}
