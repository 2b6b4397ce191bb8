-- Edges of keys over places, and how they are read.
use Rattle.std.specs.Prelude.{◌≡◌, ℕ, ◌<◌, List, [], ◌∷◌, ◌++◌, map, length, slice_index_or}
use Rattle.tib_lex.specs.Lists.{Each}
use Rattle.tib_tree.specs.Trees.{Trees, none, tree, only}
use Rattle.tib_grammar.specs.Sides.{Symbol, label, hole, side_map}
use Rattle.tib_grammar.specs.GrammarOf.{named_rule}
use Rattle.tib_grammar.specs.declared.Rule.{Rule}
use Rattle.tib_expand.specs.declared.place.Place.{Place}
use Rattle.tib_expand.specs.declared.place.Place.TheVariants.{Known, End}
use Rattle.tib_expand.specs.Reading.{Reading}

-- what is carried anywhere in some sides
abbrev pub carried : {P : Type 0} → Trees (Symbol ℕ P) → List P
carried none = []
carried (tree (label f) kids rest) = carried kids ++ carried rest
carried (tree (hole p) kids rest) = p ∷ (carried kids ++ carried rest)

-- the places in a rule whose left number is a position of the order and whose right-hand side
-- carries numbers of ends
abbrev pub places_of : Rule ℕ → List Place
places_of r = Known r.left ∷ map End (carried (only r.right))

-- the edge that such a rule stands for, where each place has its key
abbrev pub read_places : {K : Type 0} → (Place → K) → Rule ℕ → Rule K
read_places f r = record { left = f (Known r.left); right = side_map (λ i. f (End i)) r.right; cost = r.cost }

-- the positions in a rule over positions, its left one first
abbrev pub positions_of : Rule ℕ → List ℕ
positions_of r = r.left ∷ carried (only r.right)

-- how rules over places and over positions are read as edges of keys
abbrev pub key_reading : Reading (ℕ × ℕ × ℕ) (Rule (ℕ × ℕ × ℕ)) (Rule ℕ) (Rule ℕ)
key_reading = record {
  places = λ r. places_of r;
  positions = λ r. positions_of r;
  read_places = λ f r. read_places f r;
  read_positions = λ f r. named_rule f r;
}

-- the key of an end
abbrev pub end_at : List (ℕ × ℕ × ℕ) → ℕ → ℕ × ℕ × ℕ
end_at ends i = slice_index_or ends i (0, 0, 0)

-- the rule leads from the position, and reads as the edge of the key, where each number in its
-- right-hand side has the key of that end
pub record Reads (key : ℕ × ℕ × ℕ) (position : ℕ) (ends : List (ℕ × ℕ × ℕ)) (r : Rule ℕ) (e : Rule (ℕ × ℕ × ℕ)) : Type 0 where
  pub at : r.left ≡ position
  pub within : Each (λ i. i < length ends) (carried (only r.right))
  pub read : e ≡ record { left = key; right = side_map (end_at ends) r.right; cost = r.cost }
