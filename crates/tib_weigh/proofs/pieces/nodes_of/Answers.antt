use Rattle.std.proofs.Common.{◌-◌, ◌^◌, ap, min, ◌∙◌}
use Rattle.tib_lex.specs.Lists.{total}
use Rattle.tib_tree.specs.Trees.{size}
use Rattle.std.proofs.lemmas.List.{take_all}
use Rattle.tib_weigh.proofs.Halving.{one_more}
use Rattle.tib_weigh.proofs.pieces.nodes_of.Goals as goal

pub loop-tree-preserved : goal.loop-tree-preserved
loop-tree-preserved c =
    c.saturating_add-nodes.ensures
    ∙ one_more c.args.trees.now c.loop-tree.tree-index c.loop-tree.nodes c.size_of.result c.tree-item.result c.loop-tree-test.true c.loop-tree.invariant
    (c.size_of.ensures ∙ ap size c.tree-item.is)

pub returns : goal.returns
returns c = c.loop-tree.invariant ∙ ap (λ ts. min (total size ts) (2 ^ 64 - 1)) (take_all c.loop-tree.tree-index c.args.trees.now c.loop-tree-test.false)
