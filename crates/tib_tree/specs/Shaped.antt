-- The sizes and depths of nodes that are read from the last one on.
use Rattle.std.specs.Prelude.{◌≡◌, ◌+◌, ◌≤◌, ℕ, List, [], ◌∷◌, ◌++◌, length, map, reverse, Option, Some, None, option_map}
use Rattle.tib_tree.specs.Trees.{Tree, Trees, none, count, sizes}
use Rattle.tib_tree.specs.Nodes.{rank_of}
use Rattle.tib_tree.specs.Filled.{nodes_of_tree, nodes_at_levels}
use Rattle.tib_tree.specs.declared.preorder.Node.{Node}
use Rattle.tib_tree.specs.declared.shape.Place.{Place}
use Rattle.tib_tree.specs.declared.shape.Level.{Level}
use Rattle.tib_tree.specs.declared.shape.Reader.{Reader}

-- a node without its label
abbrev pub blank : Node → Node
blank n = record { label = 0; rank = n.rank; size = n.size; depth = n.depth }

abbrev pub blank_of : Place → Node
blank_of p = record { label = 0; rank = rank_of p.kids; size = p.size; depth = p.depth }

-- the nodes at some places, which are in the order of reading, the last first
abbrev pub blanks_back : List Place → List Node
blanks_back places = reverse (map blank_of places)

-- places that are one tree
pub record AreOneTree (places : List Place) : Type 0 where
  pub tree : Tree ℕ
  pub nodes : blanks_back places ≡ nodes_of_tree tree

-- how many nodes the trees at some levels have
abbrev pub sizes_at_levels : List (Trees ℕ) → ℕ
sizes_at_levels [] = 0
sizes_at_levels (ts ∷ levels) = sizes ts + sizes_at_levels levels

-- how many trees are at each level, and how many nodes from it on, the first level last
abbrev pub levels_back : List (Trees ℕ) → List Level
levels_back [] = []
levels_back (ts ∷ levels) =
    levels_back levels ++ record { trees = count ts; nodes = sizes_at_levels (ts ∷ levels) } ∷ []

-- the children that wait for their head
abbrev pub kids_of : Option (Trees ℕ) → Trees ℕ
kids_of None = none
kids_of (Some kids) = kids

-- what was read are these trees: the children that wait for their head, those at this level and
-- those at each level above it
pub record IsShaped (r : Reader) : Type 0 where
  pub held : Option (Trees ℕ)
  pub top : Trees ℕ
  pub above : List (Trees ℕ)
  pub held_is : r.held ≡ option_map count held
  pub top_is : r.top ≡ count top
  pub above_is : r.above.items ≡ levels_back above
  pub before_is : r.before ≡ sizes_at_levels (top ∷ above)
  pub nodes_are : blanks_back r.places.items ≡ nodes_at_levels (kids_of held ∷ (top ∷ above))

-- there is at most one more node, and at most one more level
abbrev pub IsLonger : Reader → Reader → Type 0
IsLonger old new =
    (length new.places.items ≤ length old.places.items + 1)
    × (length new.above.items ≤ length old.above.items + 1)
