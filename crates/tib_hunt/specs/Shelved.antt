-- The keys on the shelves of a round, and the rows of its items, whose ends have numbers on the
-- shelves.
use Rattle.std.specs.Prelude.{◌≡◌, ◌↔◌, ◌⊎◌, ℕ, ◌+◌, ◌-◌, ◌<◌, ◌≤◌, Bool, None, List, [], ◌∷◌, ◌++◌, length, map}
use Rattle.tib_lex.specs.Lists.{Has, Each, Distinct, Along, total}
use Rattle.tib_table.specs.Known.{on}
use Rattle.tib_workers.specs.declared.row.Row.{Row as ItemRow}
pub use Rattle.tib_workers.specs.Rows.{NameOn}
pub use Rattle.tib_table.specs.Numbered.{all_on}
use Rattle.tib_expand.specs.EdgeLists.{AreListed, Exceeds, IsEnd, IsWithin, key_at}
use Rattle.tib_expand.specs.Reached.{Exploration, AreEdges}
use Rattle.tib_expand.specs.Reading.{Reading}
use Rattle.tib_hunt.specs.Known.{NameEnds, end_positions}
use Rattle.tib_hunt.specs.declared.lookups.Ruled.{Ruled}
use Rattle.tib_hunt.specs.Rows.{NumberedRow}
use Rattle.tib_hunt.specs.RoundModel.{Core, with_key, with_filed}
use Rattle.tib_hunt.specs.RoundLaw.{IsKept}
use Rattle.tib_expand.specs.declared.place.Place.{Place}

module _ {K : Type 0} where
  -- no key on the shelves is one of the order
  abbrev pub AreApart : List K → List (List K) → Type 0
  AreApart order shelves = (shelf : ℕ) (k : K) → Has (on shelves shelf) k → Has order k → ⊥

  -- the state after keys are numbered, one after the other
  abbrev pub with_keys : (K → K → Bool) → (K → ℕ) → Core K → List K → Core K
  with_keys eq shelf_of s [] = s
  with_keys eq shelf_of s (k ∷ ks) = with_keys eq shelf_of (with_key eq shelf_of s k) ks

  -- with some of the ends the keys on the shelves alone have more parts than the limit
  abbrev pub ShelvesHaveMore : (K → K → Bool) → (K → ℕ) → (K → ℕ) → Core K → (K → Type 0) → ℕ → Type 0
  ShelvesHaveMore eq shelf_of parts_of s is_end limit = (front : List K) × ((k : K) → Has front k → is_end k) × (limit < total parts_of (all_on (with_keys eq shelf_of s front).shelves))

  -- a row whose ends have these keys, all on the shelves
  abbrev pub IsShelvedRow : {R : Type 0} → (R → List Place) → ℕ → List (List K) → List K → ItemRow (Ruled R) → Type 0
  IsShelvedRow places bound shelves ends row = NameOn shelves ends row.ends.items × Each (λ rule. Each (IsWithin bound (length ends)) (places rule)) row.rules.rules.items × (row.rules.at ≡ None)

  -- a row whose ends have these keys, in the order or on the shelves
  abbrev pub IsKnownRow : {R : Type 0} → (R → List Place) → List K → List (List K) → List K → ItemRow (Ruled R) → Type 0
  IsKnownRow places order shelves ends row = NameEnds order shelves ends row.rules.at row.ends.items × Each (λ rule. Each (IsWithin (length order) (length ends)) (places rule)) row.rules.rules.items

  -- the edges of the rows, where the ends of each have these keys
  abbrev pub edges_of_rows : {R E : Type 0} → ((Place → K) → R → E) → K → List K → List (List K) → List (ItemRow (Ruled R)) → List E
  edges_of_rows read d order [] rows = []
  edges_of_rows read d order (ends ∷ sights) [] = []
  edges_of_rows read d order (ends ∷ sights) (row ∷ rows) = map (read (key_at d order ends)) row.rules.rules.items ++ edges_of_rows read d order sights rows

-- the rules of a row, with the positions of its ends
abbrev pub placed_row : {R : Type 0} → List (List ℕ) → ItemRow (Ruled R) → NumberedRow R
placed_row positions row = record { rules = row.rules.rules.items; ends = end_positions positions row.rules.at row.ends.items }

module _ {K O E R T : Type 0} (p : Exploration K O E) (reading : Reading K E R T) (eq : K → K → Bool) (shelf_of : K → ℕ) where
  -- An item was expanded: its ends are numbered on their shelves, its row is the last, and it is
  -- filed.
  pub record IsWorked (order : List K) (item : ℕ) (s : Core K) (rows : List (ItemRow (Ruled R))) (parts : ℕ) (t : Core K) (rows' : List (ItemRow (Ruled R))) (parts' limit : ℕ) : Type 0 where
    pub ends : List K
    pub row : ItemRow (Ruled R)
    pub more : ℕ
    pub listed : AreListed (p.edge order item) p.edge_parts reading.places reading.read_places order ends row.rules.rules.items more
    pub are_ends : (k : K) → Has ends k ↔ IsEnd (p.edge order item) p.ends_of k
    pub named : NameOn t.shelves ends row.ends.items
    pub all_numbered : row.rules.at ≡ None
    pub core_is : t ≡ with_filed (with_keys eq shelf_of s ends) item
    pub rows_are : rows' ≡ rows ++ row ∷ []
    pub counted : parts' ≡ parts + more
    pub within : parts' ≤ limit

  -- the item has too many edges, or too many keys are on the shelves
  abbrev pub IsTooMuch : List K → ℕ → Core K → ℕ → ℕ → Type 0
  IsTooMuch order item s parts limit = Exceeds (p.edge order item) p.edge_parts (limit - parts) ⊎ ShelvesHaveMore eq shelf_of p.key_parts s (IsEnd (p.edge order item) p.ends_of) limit

  -- Within a round: its items below n are expanded and filed. `was` are the parts of all that was
  -- there at its beginning.
  pub record IsUnderway (order : List K) (first n : ℕ) (s : Core K) (rows : List (ItemRow (Ruled R))) (was parts limit : ℕ) : Type 0 where
    pub kept : IsKept shelf_of first (length order - first) (λ i k. IsEnd (p.edge order i) p.ends_of k) s
    pub filed : (i : ℕ) → first ≤ i → i < n → Has s.filed i
    pub only_filed : (i : ℕ) → Has s.filed i → i < n
    pub from : first ≤ n
    pub drawn : n ≤ first + s.drawn
    pub one_each : first + length rows ≡ n
    pub sights : List (List K)
    pub named : Along (IsShelvedRow reading.places (length order) s.shelves) sights rows
    pub edges : (d : K) (front : List E) → AreEdges p order first front → AreEdges p order n (front ++ edges_of_rows reading.read_places d order sights rows)
    pub counted : (d : K) → parts ≡ was + total p.edge_parts (edges_of_rows reading.read_places d order sights rows)
    pub within : parts ≤ limit

module _ {K O E R T : Type 0} (p : Exploration K O E) (reading : Reading K E R T) (shelf_of : K → ℕ) where
  -- What a round made of an order whose positions below the first one were expanded before. Each
  -- key on the shelves is an end of an item and is there once, each end of an item is in the order
  -- or on the shelves, and the rows have the edges of all items. `was` are the parts of all that
  -- was there at its beginning.
  pub record AreWorked (order : List K) (first : ℕ) (shelves : List (List K)) (rows : List (ItemRow (Ruled R))) (was parts limit : ℕ) : Type 0 where
    pub once : (shelf : ℕ) → Distinct (on shelves shelf)
    pub only : (shelf : ℕ) (k : K) → Has (on shelves shelf) k → (shelf_of k ≡ shelf) × ((i : ℕ) × (first ≤ i) × (i < length order) × IsEnd (p.edge order i) p.ends_of k)
    pub stands : (i : ℕ) (k : K) → first ≤ i → i < length order → IsEnd (p.edge order i) p.ends_of k → Has order k ⊎ Has (on shelves (shelf_of k)) k
    pub sights : List (List K)
    pub named : Along (IsKnownRow reading.places order shelves) sights rows
    pub edges : (d : K) (front : List E) → AreEdges p order first front → AreEdges p order (length order) (front ++ edges_of_rows reading.read_places d order sights rows)
    pub counted : (d : K) → parts ≡ was + total p.edge_parts (edges_of_rows reading.read_places d order sights rows)
    pub within : parts ≤ limit
