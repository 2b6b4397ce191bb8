-- The nodes of a tree, what a left-hand side matches there, and the nodes of its variables.
use Rattle.std.specs.Prelude.{◌≡◌, ℕ, ◌+◌, List, [], ◌∷◌, ◌++◌}
use Rattle.std.proofs.Common.{suc, get_or}
use Rattle.tib_tree.specs.Trees.{Tree, Trees, none, tree, only, sizes}
use Rattle.tib_grammar.specs.Sides.{Symbol, label, hole, Side as SideFor}
use Rattle.tib_transducer.specs.Run.{Binds}
use Rattle.tib_transducer.specs.declared.Variable.{Variable}

-- the subtrees of some trees, one for each node, in preorder
abbrev pub subtrees : Trees ℕ → List (Tree ℕ)
subtrees none = []
subtrees (tree f kids rest) = record { label = f; kids = kids } ∷ (subtrees kids ++ subtrees rest)

-- The nodes of a tree are numbered from 0 in preorder. This is the subtree at a node; past the last
-- node the whole tree is read.
abbrev pub subtree : Tree ℕ → ℕ → Tree ℕ
subtree t n = get_or (subtrees (only t)) n t

-- Sides match as many trees: a label matches a tree with this label at the root whose children the
-- sides below it match, and a variable a tree that it binds.
abbrev pub Match : Trees (Symbol ℕ Variable) → Trees ℕ → Type 0
Match none none = Unit {0}
Match none (tree g us more) = ⊥
Match (tree s kids rest) none = ⊥
Match (tree (label f) kids rest) (tree g us more) = (f ≡ g) × Match kids us × Match rest more
Match (tree (hole x) kids rest) (tree g us more) = Binds x.label g × Match rest more

-- the nodes at the variables of sides, in preorder, where the sides match trees of which the first
-- is at node n
abbrev pub variable_nodes : Trees (Symbol ℕ Variable) → Trees ℕ → ℕ → List ℕ
variable_nodes none us n = []
variable_nodes (tree s kids rest) none n = []
variable_nodes (tree (label f) kids rest) (tree g us more) n = variable_nodes kids us (suc n) ++ variable_nodes rest more (suc n + sizes us)
variable_nodes (tree (hole x) kids rest) (tree g us more) n = n ∷ variable_nodes rest more (suc n + sizes us)

-- the left-hand side matches the subtree at a node of the tree
abbrev pub MatchesAt : SideFor ℕ Variable → Tree ℕ → ℕ → Type 0
MatchesAt left t n = Match (only left) (only (subtree t n))

-- the nodes of its variables there
abbrev pub nodes_of : SideFor ℕ Variable → Tree ℕ → ℕ → List ℕ
nodes_of left t n = variable_nodes (only left) (only (subtree t n)) n
