-- Nodes over a table of labels.
use Rattle.std.specs.Prelude.{◌≡◌, ℕ, List, [], ◌∷◌, Option, Some, None, slice_get}
use Rattle.tib_tree.specs.Written.{Item}

abbrev pub rank_of : Option ℕ → ℕ
rank_of None = 0
rank_of (Some n) = n

-- a label with a number of children is a node that is written
abbrev pub IsNode : List (List ℕ) → ℕ × ℕ → Item → Type 0
IsNode labels n i = (slice_get labels n.0 ≡ Some i.text) × (n.1 ≡ rank_of i.kids)

-- the nodes have these texts and numbers of children
abbrev pub AreNodes : List (List ℕ) → List (ℕ × ℕ) → List Item → Type 0
AreNodes labels [] [] = Unit {0}
AreNodes labels [] (i ∷ is) = ⊥
AreNodes labels (n ∷ ns) [] = ⊥
AreNodes labels (n ∷ ns) (i ∷ is) = IsNode labels n i × AreNodes labels ns is
