-- Rows whose rules are settled in pieces.
use Rattle.std.specs.Prelude.{ℕ, ◌+◌, List, length, map}
use Rattle.tib_lex.specs.Lists.{Each}
use Rattle.tib_workers.specs.declared.row.Row.{Row as ItemRow}
use Rattle.tib_hunt.specs.Known.{AreOn}
use Rattle.tib_expand.specs.Reading.{Reading}
use Rattle.tib_hunt.specs.Rows.{IsRowBelow, ReadAs, StayBelow}
use Rattle.tib_hunt.specs.Shelved.{placed_row}
use Rattle.tib_hunt.specs.declared.lookups.Ruled.{Ruled}

module _ {K E R T : Type 0} (reading : Reading K E R T) (positions : List (List ℕ)) (first : ℕ) (moved : List ℕ) where
  -- each end of the rows has a position, and the rules are over places that were moved or are below
  -- the first one
  abbrev pub MayBePlaced : List (ItemRow (Ruled R)) → Type 0
  MayBePlaced rows = Each (λ row. AreOn positions row.rules.at row.ends.items) rows × Each (IsRowBelow reading.places first (first + length moved)) (map (placed_row positions) rows)

  -- the new rules are the old ones and then those of the rows, each end at its position
  abbrev pub AddsRules : List T → List (ItemRow (Ruled R)) → List T → Type 0
  AddsRules old rows new = ReadAs reading first moved old (map (placed_row positions) rows) new × StayBelow reading first moved old new
