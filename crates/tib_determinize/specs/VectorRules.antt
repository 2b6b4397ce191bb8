-- How rules over places and over positions are read as edges of vectors.
use Rattle.std.specs.Prelude.{ℕ, List, ◌∷◌, map}
use Rattle.tib_grammar.specs.Sides.{over}
use Rattle.tib_grammar.specs.GrammarOf.{named_rule}
use Rattle.tib_grammar.specs.declared.Rule.{Rule}
use Rattle.tib_grammar.specs.Positions.{positions_of}
use Rattle.tib_expand.specs.Reading.{Reading}
use Rattle.tib_expand.specs.declared.place.Place.{Place}
use Rattle.tib_expand.specs.declared.place.Place.TheVariants.{Known, End}
use Rattle.tib_determinize.specs.Vectors.{VectorOf}
use Rattle.tib_determinize.specs.declared.vector_rule.VectorRule.{VectorRule}

-- what a rule over places is seen as
pub record PlacedRule : Type 0 where
  pub end : ℕ
  pub label : ℕ
  pub positions : List ℕ
  pub cost : ℕ

abbrev pub placed_rule : VectorRule → PlacedRule
placed_rule r = record { end = r.end; label = r.label; positions = r.positions.items; cost = r.cost }

-- the places in a rule, its left one first
abbrev pub places_in : PlacedRule → List Place
places_in r = End r.end ∷ map (λ p. Known p) r.positions

abbrev pub places_of : VectorRule → List Place
places_of r = places_in (placed_rule r)

-- the edge that a rule over places stands for
abbrev pub read_placed : {K : Type 0} → (Place → K) → PlacedRule → Rule K
read_placed f r = record { left = f (End r.end); right = over r.label (map (λ p. f (Known p)) r.positions); cost = r.cost }

abbrev pub read_places : {K : Type 0} → (Place → K) → VectorRule → Rule K
read_places f r = read_placed f (placed_rule r)

-- how these are read
abbrev pub vector_reading : Reading VectorOf (Rule VectorOf) VectorRule (Rule ℕ)
vector_reading = record {
  places = λ r. places_of r;
  positions = λ r. positions_of r;
  read_places = λ f r. read_places f r;
  read_positions = λ f r. named_rule f r;
}
