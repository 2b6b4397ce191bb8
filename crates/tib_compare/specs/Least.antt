-- The least tree of the wanted rules.
use Rattle.std.specs.Prelude.{◌≡◌, ℕ, ◌+◌, ◌≤◌, List, [], ◌∷◌, length, Option, None, Some}
use Rattle.std.proofs.Common.{get_or}
use Rattle.tib_tree.specs.Trees.{Tree, size, most_nodes}
use Rattle.tib_grammar.specs.declared.Rule.{Rule}
use Rattle.tib_ranked_trees.specs.Best.{Costed, IsKBest}

-- the list of the best tree, by the sum of costs
abbrev pub IsLeastWanted : List (List ℕ) → List (Rule ℕ) → List Costed → Type 0
IsLeastWanted labels rules xs = IsKBest ◌+◌ rules labels 1 xs

-- the first tree of a list, of at most 10,000 nodes, or none
abbrev pub IsOfList : List Costed → Option (Tree ℕ) → Type 0
IsOfList xs None = xs ≡ []
IsOfList [] (Some t) = ⊥
IsOfList (x ∷ xs) (Some t) = (x.0 ≡ t) × (size t ≤ most_nodes)

-- the tree of the list of the best tree, or none
abbrev pub IsOfWanted : List (List ℕ) → List (Rule ℕ) → Option (Tree ℕ) → Type 0
IsOfWanted labels rules o = (xs : List Costed) × IsLeastWanted labels rules xs × IsOfList xs o
