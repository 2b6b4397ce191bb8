use Rattle.std.proofs.Common.{rules}
use Rattle.tib_lex.proofs.Members.{has_at}
use Rattle.tib_ranked_trees.proofs.TreesKept.{one_child}
use Rattle.tib_ranked_trees.proofs.kept.size_over.Goals as goal

pub bounds-sizes-child : goal.bounds-sizes-child
bounds-sizes-child c = c.requires _ (has_at c.args.children.now c.loop-child.child-index 0 c.loop-child-test.true)

pub loop-child-preserved : goal.loop-child-preserved
loop-child-preserved c = (
  search (rules, c.saturating_add-size.type_inv),
  one_child c.args.sizes.now c.args.children.now c.loop-child.child-index c.loop-child.size c.saturating_add-size.result c.loop-child-test.true c.loop-child.invariant.0 c.saturating_add-size.ensures _ c.loop-child.invariant.1,
)
