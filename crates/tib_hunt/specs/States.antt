-- What the functions of a hunt do to its state.
use Rattle.std.specs.Prelude.{◌≡◌, ◌↔◌, ℕ, ◌-◌, Bool, List, [], ◌∷◌, ◌++◌, length, map}
use Rattle.std.specs.declared.cmp.Ordering.{Ordering}
use Rattle.tib_lex.specs.Lists.{Has, Each, Along}
use Rattle.tib_expand.specs.Expanded.{IsEndAt}
use Rattle.tib_expand.specs.Reached.{Exploration}
use Rattle.tib_expand.specs.Reading.{Reading}
use Rattle.tib_hunt.specs.Numbered.{Name, IsInOrder}
use Rattle.tib_hunt.specs.Rows.{NumberedRow, ReadAs, StayBelow}
use Rattle.tib_hunt.specs.Held.{IsBetween, IsWithinRound}
use Rattle.tib_hunt.specs.Known.{AreOn}
use Rattle.tib_hunt.specs.RoundLaw.{IsLackedAt, IsOutcome}
use Rattle.tib_hunt.specs.Shelved.{all_on, placed_row, IsWorked, AreWorked, AreApart}
use Rattle.tib_hunt.specs.RoundModel.{Core}
use Rattle.tib_hunt.specs.declared.state.HuntState.{HuntState}
use Rattle.tib_hunt.specs.declared.state.TakenIn.{TakenIn}
use Rattle.tib_expand.specs.declared.place.Edges.{Edges}
use Rattle.tib_hunt.specs.declared.row.Row.{Row}
use Rattle.tib_hunt.specs.declared.shelved_round.Work.{Work}
use Rattle.tib_hunt.specs.declared.shelved_round.Worked.{Worked}

module _ {X K R T I O E : Type 0} where
  -- the edges are the last row, in which each of their ends has its number
  abbrev pub AddsEdges : Edges K R → HuntState X K R T I O E → HuntState X K R T I O E → Type 0
  AddsEdges edges old new =
      (row : Row R) × (new.rows.items ≡ old.rows.items ++ row ∷ []) × (row.rules.items ≡ edges.rules.items) × Name new.keys.keys edges.ends.items row.ends.items

  -- the fresh keys follow those of the order, ascending, and the rules of the rows have the
  -- positions of their ends
  abbrev pub AreSettled : (K → K → Ordering) → Reading K E R T → ℕ → List K → List K → List (NumberedRow R) → HuntState X K R T I O E → HuntState X K R T I O E → Type 0
  AreSettled cmp reading first order fresh rows old new =
      (moved : List ℕ) × IsInOrder cmp order fresh new.keys.keys moved
      × ReadAs reading first moved old.rules.items rows new.rules.items
      × StayBelow reading first moved old.rules.items new.rules.items

module _ {X K O E R T I : Type 0} (p : Exploration K O E) (admits : K → Type 0) (reading : Reading K E R T) where
  -- between two rounds, where the positions below the first one are expanded
  abbrev pub IsBetweenRounds : ℕ → ℕ → HuntState X K R T I O E → Type 0
  IsBetweenRounds first limit state = IsBetween p admits reading first state.keys.keys state.rules.items state.parts limit

  -- each position of the order is expanded, and these are the keys and the rows
  abbrev pub IsExpanded : List K → ℕ → ℕ → List K → List (NumberedRow R) → HuntState X K R T I O E → Type 0
  IsExpanded order first limit keys rows state = IsWithinRound p admits reading order first (length order) keys state.rules.items rows state.parts limit

module _ {K R : Type 0} where
  -- the keys of the shelves of a round
  abbrev pub shelves_of : Worked K R → List (List K)
  shelves_of worked = map (λ v. v.items) worked.shelves.items

  -- the order has none of the keys of the shelves
  abbrev pub LacksAll : List K → Worked K R → Type 0
  LacksAll order worked = AreApart order (shelves_of worked)

  -- the keys of the shelves are at the positions that were taken in
  abbrev pub ArePlaced : List K → Worked K R → TakenIn K R → Type 0
  ArePlaced keys worked taken = Along (Name keys) (shelves_of worked) (map (λ v. v.items) taken.positions.items)

  -- each end of a row has a position
  abbrev pub HavePositions : TakenIn K R → Type 0
  HavePositions taken = Each (λ row. AreOn (map (λ v. v.items) taken.positions.items) row.rules.at row.ends.items) taken.rows.items

  -- the rows that were taken in, with the positions of their ends
  abbrev pub rows_in : TakenIn K R → List (NumberedRow R)
  rows_in taken = map (placed_row (map (λ v. v.items) taken.positions.items)) taken.rows.items

module _ {K O E R T : Type 0} (p : Exploration K O E) (reading : Reading K E R T) (eq : K → K → Bool) (shelf_of : K → ℕ) where
  -- an item was expanded and filed
  abbrev pub WorksItem : List K → ℕ → ℕ → Core K → Work R → Core K → Work R → Type 0
  WorksItem order item limit s old t new = IsWorked p reading eq shelf_of order item s old.rows.items old.parts t new.rows.items new.parts limit

module _ {K O E R T : Type 0} (p : Exploration K O E) (reading : Reading K E R T) (shelf_of : K → ℕ) where
  -- each item of a round was expanded
  abbrev pub WorksRound : List K → ℕ → ℕ → ℕ → Worked K R → Type 0
  WorksRound order first was limit worked = AreWorked p reading shelf_of order first (shelves_of worked) worked.rows.items was worked.parts limit

module _ {K O E R : Type 0} (p : Exploration K O E) (eq : K → K → Bool) (shelf_of : K → ℕ) where
  -- Some complete run of the core leaves these shelves, and files an item for each row. In it those
  -- ends are numbered that the order lacks.
  abbrev pub IsRunOverLacked : List K → ℕ → Worked K R → Type 0
  IsRunOverLacked order first worked = IsOutcome eq shelf_of first (length order - first) (IsLackedAt p order) (shelves_of worked) (length worked.rows.items)

  -- the same, where all ends are numbered
  abbrev pub IsRunOverAll : List K → ℕ → Worked K R → Type 0
  IsRunOverAll order first worked = IsOutcome eq shelf_of first (length order - first) (IsEndAt p order) (shelves_of worked) (length worked.rows.items)

module _ {K O E : Type 0} (p : Exploration K O E) (eq : K → K → Bool) (shelf_of : K → ℕ) where
  -- The keys that a round appends are those on the shelves after some complete run of its core, in
  -- which those ends are numbered that the order lacks.
  abbrev pub AppendsOutcome : List K → ℕ → List K → Type 0
  AppendsOutcome order first keys =
      (new : List K) × (shelves : List (List K)) × (keys ≡ order ++ new)
      × IsOutcome eq shelf_of first (length order - first) (IsLackedAt p order) shelves (length order - first)
      × ((k : K) → Has new k ↔ Has (all_on shelves) k)
