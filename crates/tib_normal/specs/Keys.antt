-- A rule as numbers.
use Rattle.std.specs.Prelude.{◌≡◌, ℕ, List, ◌∷◌, map}
use Rattle.tib_tree.specs.Trees.{preorder_of}
use Rattle.tib_grammar.specs.Sides.{Symbol, label, hole, Side as SideFor}
use Rattle.tib_grammar.specs.Items.{pairs_of}
use Rattle.tib_grammar.specs.declared.Item.{Item}
use Rattle.tib_grammar.specs.declared.Item.TheVariants.{Label, Hole}
use Rattle.tib_grammar.specs.declared.Rule.{Rule}

-- the label or the state of an item
abbrev pub number_in : Item ℕ → ℕ
number_in (Label f rank) = f
number_in (Hole q) = q

-- the label or the state of a symbol
abbrev pub number_of : Symbol ℕ ℕ → ℕ
number_of (label f) = f
number_of (hole q) = q

-- the left state of a rule and the labels and states of its right side, in preorder
abbrev pub key_of : Rule ℕ → List ℕ
key_of r = r.left ∷ map (λ p. number_of p.0) (preorder_of r.right)

-- some items are the preorder of the side
abbrev pub IsWritten : SideFor ℕ ℕ → Type 0
IsWritten s = (items : List (Item ℕ)) × (pairs_of items ≡ preorder_of s)
