use Rattle.std.proofs.Common.{◌<◌, ◌≤◌, ◌-◌, ◌^◌, arith, inl, inr, subst, ap, take, ◌∙◌}
use Rattle.tib_lex.specs.Lists.{total}
use Rattle.tib_tree.specs.Trees.{size}
use Rattle.tib_weigh.proofs.Halving.{one_more, below_uncut, above_uncut}
use Rattle.tib_weigh.proofs.pieces.first_with.Goals as goal

pub loop-n-preserved : goal.loop-n-preserved
loop-n-preserved c = record {
  some = omega arith;
  within = omega (arith, c.loop-n-test.true);
  counted =
      c.saturating_add-so_far.ensures
      ∙ one_more c.args.trees.now c.loop-n.n c.loop-n.so_far c.size_of.result c.index-trees-n.result c.loop-n.invariant.within c.loop-n.invariant.counted
      (c.size_of.ensures ∙ ap size c.index-trees-n.is);
  needed = inr (subst (λ k. total size (take k c.args.trees.now) < c.args.nodes) (omega arith) (below_uncut (total size (take c.loop-n.n c.args.trees.now)) (2 ^ 64 - 1) c.args.nodes (subst (λ k. k < c.args.nodes) c.loop-n.invariant.counted c.if-so_far-nodes.true) (omega (arith, c.ranges.nodes.fits))));
}

pub returns-after-loop-n-clause-fewest : goal.returns-after-loop-n-clause-fewest
returns-after-loop-n-clause-fewest c = record { enough = inr (omega (arith, c.loop-n-test.false, c.loop-n.invariant.within)); needed = c.loop-n.invariant.needed }

pub returns-else-so_far-nodes-clause-fewest : goal.returns-else-so_far-nodes-clause-fewest
returns-else-so_far-nodes-clause-fewest c = record { enough = inl (above_uncut (total size (take c.loop-n.n c.args.trees.now)) (2 ^ 64 - 1) c.args.nodes (subst (λ k. c.args.nodes ≤ k) c.loop-n.invariant.counted c.if-so_far-nodes.false)); needed = c.loop-n.invariant.needed }
