-- What a list of nodes stands for.
use Rattle.std.specs.Prelude.{◌≡◌, ℕ}
use Rattle.tib_tree.specs.Trees.{Tree, parse, first_of}
use Rattle.tib_tree.specs.Pairs.{pairs_of}
use Rattle.tib_tree.specs.Filled.{nodes_of_tree}
use Rattle.tib_tree.specs.declared.preorder.Tree.TheInside.{Inside}

-- the tree whose preorder the nodes are
abbrev pub tree_of : Inside → Tree ℕ
tree_of t = first_of 0 (parse (pairs_of t.nodes.items))

-- the nodes are those of that tree, with their sizes and depths
abbrev pub IsFilled : Inside → Type 0
IsFilled t = nodes_of_tree (tree_of t) ≡ t.nodes.items
