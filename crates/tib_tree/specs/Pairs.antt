-- Nodes as pairs.
use Rattle.std.specs.Prelude.{ℕ, List, map}
use Rattle.tib_tree.specs.declared.preorder.Node.{Node}

-- a node's label and number of children
abbrev pub pair_of : Node → ℕ × ℕ
pair_of n = (n.label, n.rank)

abbrev pub pairs_of : List Node → List (ℕ × ℕ)
pairs_of ns = map pair_of ns
