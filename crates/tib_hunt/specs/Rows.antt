-- Rows of rules whose ends have numbers.
use Rattle.std.specs.Prelude.{◌≡◌, ℕ, ◌<◌, ◌≤◌, List, [], ◌∷◌, ◌++◌, map, length}
use Rattle.tib_lex.specs.Lists.{Each}
use Rattle.tib_expand.specs.EdgeLists.{position_of, IsWithin}
use Rattle.tib_hunt.specs.Numbered.{moved_to}
use Rattle.tib_expand.specs.Reading.{Reading, AreBelow}
use Rattle.tib_expand.specs.declared.place.Place.{Place}
use Rattle.tib_hunt.specs.declared.row.Row.{Row}

-- a row: its rules, one for each edge, and the numbers of its ends
pub record NumberedRow (R : Type 0) : Type 0 where
  pub rules : List R
  pub ends : List ℕ

-- the row that a struct holds
abbrev pub numbered : {R : Type 0} → Row R → NumberedRow R
numbered row = record { rules = row.rules.items; ends = row.ends.items }

module _ {R K E : Type 0} (read : (Place → K) → R → E) (at : ℕ → K) where
  -- the edges of a row, where each number has its key
  abbrev pub read_row : NumberedRow R → List E
  read_row row = map (read (λ place. at (position_of row.ends place))) row.rules

  -- those of all rows, one row after the other
  abbrev pub read_rows : List (NumberedRow R) → List E
  read_rows [] = []
  read_rows (row ∷ rows) = read_row row ++ read_rows rows

-- each place is a position below the first one or one of the ends, and these have numbers below the
-- bound
abbrev pub IsRowBelow : {R : Type 0} → (R → List Place) → ℕ → ℕ → NumberedRow R → Type 0
IsRowBelow places first bound row = Each (λ rule. Each (IsWithin first (length row.ends)) (places rule)) row.rules × Each (λ n. n < bound) row.ends

-- the new rules are the old ones and then those over places, in which each end has its position
pub record Settles {K E R T : Type 0} (reading : Reading K E R T) (ends : List ℕ) (old : List T) (over : List R) (new : List T) : Type 0 where
  pub read : (at : ℕ → K) → map (reading.read_positions at) new ≡ map (reading.read_positions at) old ++ map (reading.read_places (λ place. at (position_of ends place))) over
  pub positions : map reading.positions new ≡ map reading.positions old ++ map (λ rule. map (position_of ends) (reading.places rule)) over

module _ {K E R T : Type 0} (reading : Reading K E R T) (first : ℕ) (moved : List ℕ) where
  -- the new rules stand for the edges of the old ones and then for those of the row, where the
  -- numbers from `first` on were moved
  abbrev pub ReadsRow : List T → NumberedRow R → List T → Type 0
  ReadsRow old row new =
      (at : ℕ → K) → map (reading.read_positions at) new ≡ map (reading.read_positions at) old ++ read_row reading.read_places (λ n. at (moved_to first moved n)) row

  -- the same for rows
  abbrev pub ReadAs : List T → List (NumberedRow R) → List T → Type 0
  ReadAs old rows new =
      (at : ℕ → K) → map (reading.read_positions at) new ≡ map (reading.read_positions at) old ++ read_rows reading.read_places (λ n. at (moved_to first moved n)) rows

  -- each bound of the old rules that is at least `first`, and of what was moved, is a bound of the
  -- new rules
  abbrev pub StayBelow : List T → List T → Type 0
  StayBelow old new = (bound : ℕ) → first ≤ bound → Each (λ n. n < bound) moved → AreBelow reading.positions bound old → AreBelow reading.positions bound new
