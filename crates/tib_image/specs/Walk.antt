-- The preorder of a left-hand side, walked beside the nodes of a tree.
use Rattle.std.specs.Prelude.{ℕ, ◌+◌, nat_eq, Bool, true, List, [], ◌∷◌, ◌++◌, Option, None, Some, slice_get, if◌then◌else◌}
use Rattle.tib_tree.specs.declared.preorder.Node.{Node}
use Rattle.tib_grammar.specs.Sides.{Symbol, label, hole}
use Rattle.tib_transducer.specs.declared.Variable.{Variable}

-- whether a variable with this label, or without one, binds trees with the label f at the root
abbrev pub binds : Option ℕ → ℕ → Bool
binds None f = true
binds (Some g) f = nat_eq g f

-- some nodes before those of a walk, if it has any
abbrev pub with_nodes : List ℕ → Option (List ℕ) → Option (List ℕ)
with_nodes ns None = None
with_nodes ns (Some ms) = Some (ns ++ ms)

-- how many nodes are passed: a label passes its own, and a variable those of the tree that it binds
abbrev pub width : Symbol ℕ Variable → Option Node → ℕ
width (label f) o = 1
width (hole x) None = 0
width (hole x) (Some node) = node.size

-- the walk past a symbol with this many children, at the node with the number n, where the rest of
-- the walk is known
abbrev pub past : Symbol ℕ Variable → ℕ → Option Node → ℕ → Option (List ℕ) → Option (List ℕ)
past s rank None n rest = None
past (label f) rank (Some node) n rest = if nat_eq node.label f then (if nat_eq node.rank rank then rest else None) else None
past (hole x) rank (Some node) n rest = if binds x.label node.label then with_nodes (n ∷ []) rest else None

-- the nodes at the variables of a preorder that is walked beside the nodes from n on, none where it
-- does not match them
abbrev pub walk : List (Symbol ℕ Variable × ℕ) → List Node → ℕ → Option (List ℕ)
walk [] nodes n = Some []
walk (x ∷ xs) nodes n = past x.0 x.1 (slice_get nodes n) n (walk xs nodes (n + width x.0 (slice_get nodes n)))
