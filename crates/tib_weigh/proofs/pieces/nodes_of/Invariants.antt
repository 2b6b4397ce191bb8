use Rattle.std.proofs.Common.{◌≡◌, ◌-◌, ◌^◌, take, min}
use Rattle.tib_lex.specs.Lists.{total}
use Rattle.tib_tree.specs.Trees.{size}
use Rattle.tib_weigh.proofs.pieces.nodes_of.Given as goal

abbrev pub invariant-loop-tree : goal.invariant-loop-tree
invariant-loop-tree l = l.nodes ≡ min (total size (take l.tree-index l.trees)) (2 ^ 64 - 1)
