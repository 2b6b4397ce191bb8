use Rattle.std.proofs.Common.{◌≡◌, length, drop, arith, sym, subst}
use Rattle.tib_tree.specs.Trees.{parse}
use Rattle.tib_tree.specs.Pairs.{pairs_of}
use Rattle.tib_weigh.specs.Entries.{IsAscending}
use Rattle.tib_weigh.specs.Found.{IsBlank}
use Rattle.tib_weigh.specs.declared.found.CostsByState.{CostsByState}
use Rattle.tib_weigh.specs.Vectors.{vectors}
use Rattle.tib_weigh.proofs.Walk.{on_stack, step_left, last_vector, ascending-Weighed}
use Rattle.tib_weigh.proofs.weighing.weigh_by.Goals as goal

pub put_vector_at-requires-clause-enough : goal.put_vector_at-requires-clause-enough
put_vector_at-requires-clause-enough g c =
    rw c.deref.ensures.value
    (on_stack g.S.Semiring.product c.args.normal.now.rules c.nodes-nodes.result.now c.args.tree.now c.nodes-nodes.ensures.pairs c.loop-i.i
    c.loop-i.stack.items c.loop-i-test.true c.loop-i.invariant.within c.loop-i.invariant.weighed)

pub put_vector_at-requires-clause-ascend : goal.put_vector_at-requires-clause-ascend
put_vector_at-requires-clause-ascend g c =
    rw c.deref.ensures.value
    (ascending-Weighed g.S.Semiring.product c.args.normal.now.rules (parse (drop c.loop-i.i (pairs_of c.nodes-nodes.result.now)))
    (vectors c.loop-i.stack.items) c.loop-i.invariant.weighed)

pub loop-i-preserved : goal.loop-i-preserved
loop-i-preserved g c = record {
  within = omega arith;
  blank = subst IsBlank (sym c.in_ok-keep.ensures.found) c.in_ok-put_vector_at.ensures.blank;
  long = subst (λ (f : CostsByState). length f.costs.items ≡ length c.args.normal.now.names) (sym c.in_ok-keep.ensures.found) c.in_ok-put_vector_at.ensures.long;
  weighed = rw (c.in_ok-push.ensures.items, c.in_ok-keep.ensures.stack, c.loop-i.stack.ok.0) (
      step_left g.S.Semiring.product c.args.normal.now.rules c.nodes-nodes.result.now c.args.tree.now c.nodes-nodes.ensures.pairs c.loop-i.i
      c.loop-i.stack.items c.put_vector_at.new.vector c.loop-i-test.true c.loop-i.invariant.within c.loop-i.invariant.weighed
      (c.in_ok-put_vector_at.ensures.vector (parse (drop c.loop-i.i (pairs_of c.nodes-nodes.result.now))) (rw c.deref.ensures.value c.loop-i.invariant.weighed))
      );
}

pub cost_at-cost-requires : goal.cost_at-cost-requires
cost_at-cost-requires g c =
    let last = last_vector g.S.Semiring.product c.args.normal.now.rules c.nodes-nodes.result.now c.args.tree.now c.nodes-nodes.ensures.pairs
    c.loop-i.i c.loop-i.stack.items c.index.result.now (omega arith) c.loop-i.invariant.weighed c.index.ensures
    in
    subst IsAscending (sym c.deref-2.ensures.value) last.1.ascends

pub returns-clause-cost : goal.returns-clause-cost
returns-clause-cost g c =
    let last = last_vector g.S.Semiring.product c.args.normal.now.rules c.nodes-nodes.result.now c.args.tree.now c.nodes-nodes.ensures.pairs
    c.loop-i.i c.loop-i.stack.items c.index.result.now (omega arith) c.loop-i.invariant.weighed c.index.ensures
    in
    rw (c.cost_at-cost.ensures, c.deref-2.ensures.value) (last.1.least 0)
