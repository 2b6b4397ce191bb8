-- Rows of items whose ends have numbers.
use Rattle.std.specs.Prelude.{◌≡◌, ◌⊎◌, ℕ, ◌+◌, ◌-◌, ◌<◌, ◌≤◌, Bool, true, false, List, [], ◌∷◌, length, Option, Some, None, slice_set, slice_index_or}
use Rattle.std.specs.List.{All}
use Rattle.tib_lex.specs.Lists.{Along, total}
use Rattle.tib_table.specs.Known.{Names}
use Rattle.tib_table.specs.declared.number.Number.{Number}
use Rattle.tib_workers.specs.declared.row.Row.{Row}

-- each number names its key on the shelves
abbrev pub NameOn : {K : Type 0} → List (List K) → List K → List Number → Type 0
NameOn shelves ends numbers = Along (λ k (n : Number). Names shelves n.shelf n.place k) ends numbers

-- the parts of all rows
abbrev pub parts_in : {T : Type 0} → List (Row T) → ℕ
parts_in {T} rows = total (λ (row : Row T). row.parts) rows

-- the parts of a row, if it is there
abbrev pub slot_parts : {T : Type 0} → Option (Row T) → ℕ
slot_parts None = 0
slot_parts (Some row) = row.parts

-- the parts of the rows that are there
abbrev pub parts_of_slots : {T : Type 0} → List (Option (Row T)) → ℕ
parts_of_slots slots = total slot_parts slots

-- a row is put at its item's place, where none was there
abbrev pub IsPutIn : {T : Type 0} → Row T → List (Option (Row T)) → List (Option (Row T)) → Bool → Type 0
IsPutIn row old new true = (slice_index_or old row.item None ≡ None) × (new ≡ slice_set old row.item (Some row))
IsPutIn row old new false = new ≡ old

module _ {D K T : Type 0} (gives : D → ℕ → List K → T → ℕ → Type 0) (count_of : D → ℕ) where
  -- the row of an item, whose numbers name the item's ends on the shelves
  abbrev pub IsRowOf : D → List (List K) → Row T → Type 0
  IsRowOf d known row = (row.item < count_of d) × ((ends : List K) × gives d row.item ends row.rules row.parts × NameOn known ends row.ends.items)

  -- the rows of the items from this one on, in order
  abbrev pub AreRowsFrom : D → List (List K) → ℕ → List (Row T) → Type 0
  AreRowsFrom d known n [] = Unit {0}
  AreRowsFrom d known n (row ∷ rows) = (row.item ≡ n) × IsRowOf d known row × AreRowsFrom d known (n + 1) rows

  -- the item's row, or none
  abbrev pub IsSlot : D → List (List K) → ℕ → Option (Row T) → Type 0
  IsSlot d known n None = Unit {0}
  IsSlot d known n (Some row) = (row.item ≡ n) × IsRowOf d known row

  -- a place for each item from this one on
  abbrev pub AreSlots : D → List (List K) → ℕ → List (Option (Row T)) → Type 0
  AreSlots d known n [] = Unit {0}
  AreSlots d known n (slot ∷ slots) = IsSlot d known n slot × AreSlots d known (n + 1) slots

  -- whatever keys are known, the slots hold rows of the items from 0 on if all the rows are such
  abbrev pub HoldWhatRowsHold : D → List (Row T) → List (Option (Row T)) → Type 0
  HoldWhatRowsHold d rows slots = (known : List (List K)) → All (IsRowOf d known) rows → AreSlots d known 0 slots

  -- the item's row was there, or was made within what was left
  abbrev pub IsTaken : D → List (List K) → Option (Row T) → ℕ → Row T → ℕ → ℕ → Type 0
  IsTaken d known slot item row left left' =
      ((slot ≡ Some row) × (left' ≡ left)) ⊎ ((slot ≡ None) × (row.item ≡ item) × IsRowOf d known row × (row.parts ≤ left) × (left' ≡ left - row.parts))

  -- an item has more parts than what the rows of other items leave of the room
  pub record LeaveTooLittle (exceeds : D → ℕ → ℕ → Type 0) (d : D) (room : ℕ) : Type 0 where
    pub item : ℕ
    pub below : item < count_of d
    pub known : List (List K)
    pub slots : List (Option (Row T))
    pub whole : length slots ≡ count_of d
    pub rows : AreSlots d known 0 slots
    pub none : slice_index_or slots item None ≡ None
    pub within : parts_of_slots slots ≤ room
    pub more : exceeds d item (room - parts_of_slots slots)
