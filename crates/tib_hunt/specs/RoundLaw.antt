-- What holds after every complete run of a round, whatever the order of its events.
use Rattle.std.specs.Prelude.{◌≡◌, ◌↔◌, ℕ, zero, suc, ◌+◌, ◌≤◌, Bool, List, [], ◌∷◌, length}
use Rattle.tib_lex.specs.Lists.{Has, Distinct}
use Rattle.tib_table.specs.Known.{on}
use Rattle.tib_expand.specs.Expanded.{IsEndAt}
use Rattle.tib_expand.specs.Reached.{Exploration}
use Rattle.tib_hunt.specs.declared.event.Event.{Event}
use Rattle.tib_hunt.specs.RoundModel.{Core, opened, IsItem, Runs, draws, IsComplete}

-- the given count of numbers from this one on
abbrev pub numbers_from : ℕ → ℕ → List ℕ
numbers_from n zero = []
numbers_from n (suc k) = n ∷ numbers_from (n + 1) k

-- What holds between any two events of a round: no more is drawn than there are items, a key on a
-- shelf is an end of a drawn item and is there once, and a filed item has all its ends on the
-- shelves.
pub record IsKept {K : Type 0} (shelf_of : K → ℕ) (first count : ℕ) (is_end : ℕ → K → Type 0) (s : Core K) : Type 0 where
  pub wide : length s.shelves ≡ 16
  pub few : s.drawn ≤ count
  pub only : (shelf : ℕ) (k : K) → Has (on s.shelves shelf) k → (shelf_of k ≡ shelf) × ((i : ℕ) × IsItem first s.drawn i × is_end i k)
  pub once : (shelf : ℕ) → Distinct (on s.shelves shelf)
  pub filed : Distinct s.filed × ((i : ℕ) → Has s.filed i → IsItem first s.drawn i)
  pub stands : (i : ℕ) → Has s.filed i → (k : K) → is_end i k → Has (on s.shelves (shelf_of k)) k

-- k is an end of an edge of the position, and the order lacks it
abbrev pub IsLackedAt : {K O E : Type 0} → Exploration K O E → List K → ℕ → K → Type 0
IsLackedAt p order i k = IsEndAt p order i k × (Has order k → ⊥)

-- A round of `count` items from `first` on; `is_end i k` says that the key k is an end of the item
-- i that is numbered.
module _ {K : Type 0} (eq : K → K → Bool) (shelf_of : K → ℕ) (first count : ℕ) (is_end : ℕ → K → Type 0) where
  -- allowed events lead from the opened state to this one, in which all items are drawn and filed
  abbrev pub IsCompleteRun : List (Event K) → Core K → Type 0
  IsCompleteRun es t = Runs eq shelf_of first count is_end opened es t × IsComplete eq shelf_of first count is_end t

  -- some complete run leaves these shelves, and files as many items as there are rows, one after
  -- the other from the first one on
  abbrev pub IsOutcome : List (List K) → ℕ → Type 0
  IsOutcome shelves rows = (es : List (Event K)) × IsCompleteRun es (record { drawn = count; shelves = shelves; filed = numbers_from first rows })

-- The same, where the items have these edges, each by its origin.
module _ {K O E : Type 0} (eq : K → K → Bool) (shelf_of : K → ℕ) (first count : ℕ) (edge : ℕ → O → E → Type 0) (is_end : ℕ → K → Type 0) where
  -- the edge is among those that were filed: by definition it is an edge of a filed item
  abbrev pub IsFiled : Core K → ℕ → O → E → Type 0
  IsFiled t i o e = Has t.filed i × edge i o e

  -- After a complete run: each item was drawn once and filed once, the filed edges are those of the
  -- items, and the keys on the shelves are the distinct ends of the items that are numbered, each
  -- once and on its own shelf.
  pub record IsWhole (es : List (Event K)) (t : Core K) : Type 0 where
    pub drawn_once : draws eq shelf_of first count is_end opened es ≡ numbers_from first count
    pub filed_once : Distinct t.filed
    pub edges : (i : ℕ) (o : O) (e : E) → IsFiled t i o e ↔ (IsItem first count i × edge i o e)
    pub items : (i : ℕ) → Has t.filed i ↔ IsItem first count i
    pub keys : (shelf : ℕ) (k : K) → Has (on t.shelves shelf) k ↔ ((shelf_of k ≡ shelf) × ((i : ℕ) × IsItem first count i × is_end i k))
    pub keys_once : (shelf : ℕ) → Distinct (on t.shelves shelf)

  abbrev pub EveryRun : Type 0
  EveryRun = (es : List (Event K)) (t : Core K) → IsCompleteRun eq shelf_of first count is_end es t → IsWhole es t

  -- two states have the same keys on each shelf and the same filed edges
  pub record HaveTheSame (t u : Core K) : Type 0 where
    pub keys : (shelf : ℕ) (k : K) → Has (on t.shelves shelf) k ↔ Has (on u.shelves shelf) k
    pub edges : (i : ℕ) (o : O) (e : E) → IsFiled t i o e ↔ IsFiled u i o e

  abbrev pub TwoRuns : Type 0
  TwoRuns = (es fs : List (Event K)) (t u : Core K) → IsCompleteRun eq shelf_of first count is_end es t → IsCompleteRun eq shelf_of first count is_end fs u → HaveTheSame t u
