-- What a hunt returns.
use Rattle.std.specs.Prelude.{◌≡◌, List, length, map, slice_index_or}
use Rattle.tib_expand.specs.Reached.{Exploration, IsReachedSet, parts_of}
use Rattle.tib_expand.specs.Reading.{Reading, AreBelow}
use Rattle.tib_expand.specs.declared.found.Found.{Found}

module _ {K E R T : Type 0} (reading : Reading K E R T) where
  -- the edges that the rules stand for over the order; d is the key for positions that the order
  -- lacks
  abbrev pub edges_found : K → Found K T → List E
  edges_found d found = map (reading.read_positions (λ n. slice_index_or found.order.items n d)) found.rules.items

  -- each position in the rules is one of the order
  abbrev pub AreWithinOrder : Found K T → Type 0
  AreWithinOrder found = AreBelow reading.positions (length found.order.items) found.rules.items

module _ {K O E R T : Type 0} (p : Exploration K O E) (reading : Reading K E R T) where
  -- the order and the edges of the rules are the reached set
  abbrev pub IsFound : Found K T → Type 0
  IsFound found = (d : K) → IsReachedSet p found.order.items (edges_found reading d found)

  -- the parts of the keys and of the edges are added up
  abbrev pub HasParts : Found K T → Type 0
  HasParts found = (d : K) → found.parts ≡ parts_of p found.order.items (edges_found reading d found)
