-- The states of a rule over positions of an order.
use Rattle.std.specs.Prelude.{ℕ, List, [], ◌∷◌, ◌++◌}
use Rattle.tib_tree.specs.Trees.{Trees, none, tree, only}
use Rattle.tib_grammar.specs.Sides.{Symbol, label, hole, holes_of}
use Rattle.tib_grammar.specs.declared.Rule.{Rule}

-- the states at the holes of trees, in preorder, those below holes too
abbrev pub states_in : Trees (Symbol ℕ ℕ) → List ℕ
states_in none = []
states_in (tree (label f) kids rest) = states_in kids ++ states_in rest
states_in (tree (hole q) kids rest) = q ∷ (states_in kids ++ states_in rest)

-- the states of a rule, its left one first
abbrev pub positions_of : Rule ℕ → List ℕ
positions_of r = r.left ∷ states_in (only r.right)

-- the states at the holes of the right-hand sides of rules, one after another
abbrev pub all_ends : {K : Type 0} → List (Rule K) → List K
all_ends [] = []
all_ends (e ∷ es) = holes_of e.right ++ all_ends es
