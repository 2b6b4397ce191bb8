-- The nodes of a tree with their sizes and depths.
use Rattle.std.specs.Prelude.{ℕ, suc, List, [], ◌∷◌, ◌++◌, length}
use Rattle.tib_tree.specs.Trees.{Tree, Trees, none, tree, count, sizes, only}
use Rattle.tib_tree.specs.declared.preorder.Node.{Node}

-- the nodes of some trees at a depth, a node before its children
abbrev pub nodes_at : ℕ → Trees ℕ → List Node
nodes_at d none = []
nodes_at d (tree f kids rest) =
    record { label = f; rank = count kids; size = suc (sizes kids); depth = d } ∷ (nodes_at (suc d) kids ++ nodes_at d rest)

-- the nodes of a tree, whose root is at depth 0
abbrev pub nodes_of_tree : Tree ℕ → List Node
nodes_of_tree t = nodes_at 0 (only t)

-- a node of some trees without its depth
abbrev pub sized : ℕ → Trees ℕ → Node
sized f kids = record { label = f; rank = count kids; size = suc (sizes kids); depth = 0 }

-- the nodes without their depths, the last one first
abbrev pub sized_back : Trees ℕ → List Node
sized_back none = []
sized_back (tree f kids rest) = sized_back rest ++ (sized_back kids ++ sized f kids ∷ [])

-- the nodes of the trees at some levels, the deepest level first
abbrev pub nodes_at_levels : List (Trees ℕ) → List Node
nodes_at_levels [] = []
nodes_at_levels (ts ∷ levels) = nodes_at (length levels) ts ++ nodes_at_levels levels
