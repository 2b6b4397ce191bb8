use Rattle.std.proofs.Common.{arith, length, ap}
use Rattle.tib_tree.proofs.Placing.{placing_starts, all_placed, level_done, nodes_left, node_placed, nothing}
use Rattle.tib_tree.proofs.preorder.place_nodes.Goals as goal

pub loop-count-init : goal.loop-count-init
loop-count-init c = record {
  few = omega (arith, c.in_ok-push.ensures.len);
  all = omega (arith, c.new-nodes.ensures.len);
  placed = λ t e. placing_starts t _ _ _ _ c.new-nodes.ensures.items c.clear.ensures.items c.in_ok-push.ensures.items e;
}

pub loop-count-preserved-then-count-eq0 : goal.loop-count-preserved-then-count-eq0
loop-count-preserved-then-count-eq0 c = record {
  few = omega (arith, c.loop-count.invariant.few, c.in-Some.ensures.len);
  all = c.loop-count.invariant.all;
  placed = λ t e. level_done _ _ _ c.in-Some.count _ _ c.in-Some.ensures.items c.if-count-eq0.true (c.loop-count.invariant.placed t e);
}

pub returns-in_default-pop : goal.returns-in_default-pop
returns-in_default-pop c = λ t e.
    absurd (nodes_left _ _ _ c.in-Some.count _ _ c.in-Some.ensures.items (omega (arith, c.if-count-eq0.false)) (omega (arith, nothing _ c.in_default-pop.ensures.variant.1, c.loop-count.back.ok.0)) (c.loop-count.invariant.placed t e))

pub loop-count-preserved : goal.loop-count-preserved
loop-count-preserved c = record {
  few = omega (arith, c.loop-count.invariant.few, ap length c.in-Some.ensures.items, c.in-Some.ensures.len, c.in_ok-push-2.ensures.len, c.in_ok-push-3.ensures.len, c.in_ok-push-4.ensures.len);
  all = omega (arith, c.loop-count.invariant.all, c.in-Some-pop.ensures.len, c.in_ok-push-4.ensures.len);
  placed = λ t e. node_placed _ _ _ _ _ _ c.in-Some.count _ _ _ _ c.in-Some-pop.node c.in-Some.ensures.items (omega (arith, c.if-count-eq0.false)) c.in-Some-pop.ensures.items c.in_ok-push-2.ensures.items c.in_ok-push-3.ensures.items (omega (arith, c.in_ok-push-2.ensures.len)) c.in_ok-push-4.ensures.items (c.loop-count.invariant.placed t e);
}

pub returns : goal.returns
returns c = λ t e. all_placed _ _ _ _ (c.loop-count.invariant.placed t e) (omega (arith, nothing _ c.in_default.ensures.variant.1, c.loop-count.counts.ok.0))
