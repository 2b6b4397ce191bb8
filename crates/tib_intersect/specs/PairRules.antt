-- Edges over places, as the rules of a list of edges, and how they are read.
use Rattle.std.specs.Prelude.{◌≡◌, ℕ, List, ◌∷◌, map, length}
use Rattle.tib_lex.specs.Lists.{Each}
use Rattle.tib_grammar.specs.Sides.{label, over}
use Rattle.tib_grammar.specs.GrammarOf.{named_rule}
use Rattle.tib_grammar.specs.declared.Rule.{Rule}
use Rattle.tib_grammar.specs.Positions.{positions_of}
use Rattle.tib_expand.specs.declared.place.Place.{Place}
use Rattle.tib_expand.specs.declared.place.Place.TheVariants.{Known}
use Rattle.tib_expand.specs.EdgeLists.{IsWithin, key_at}
use Rattle.tib_expand.specs.Reading.{Reading}
use Rattle.tib_key_edges.specs.Ends.{ends_from}
use Rattle.tib_intersect.specs.declared.pair_rule.PairRule.{PairRule}

-- the places in a rule, its left one first
abbrev pub places_of : PairRule → List Place
places_of r = Known r.position ∷ ends_from r.first_end r.rank

-- the edge that a rule over places stands for, where each place has its key
abbrev pub read_places : {K : Type 0} → (Place → K) → PairRule → Rule K
read_places f r = record { left = f (Known r.position); right = over r.label (map f (ends_from r.first_end r.rank)); cost = r.cost }

-- how rules over places and over positions are read as edges of pairs
abbrev pub pair_reading : Reading (ℕ × ℕ) (Rule (ℕ × ℕ)) PairRule (Rule ℕ)
pair_reading = record {
  places = λ r. places_of r;
  positions = λ r. positions_of r;
  read_places = λ f r. read_places f r;
  read_positions = λ f r. named_rule f r;
}

-- over the order and the ends the rule is within, and reads as the edge
pub record Reads (order ends : List (ℕ × ℕ)) (r : PairRule) (e : Rule (ℕ × ℕ)) : Type 0 where
  pub within : Each (IsWithin (length order) (length ends)) (places_of r)
  pub read : (d : ℕ × ℕ) → read_places (key_at d order ends) r ≡ e
