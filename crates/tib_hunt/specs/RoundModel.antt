-- The core of one round: a machine over events, each an atomic action of one worker. Only some of
-- the ends of an item may be numbered: several workers number those that the order lacks.
use Rattle.std.specs.Prelude.{◌≡◌, ℕ, ◌+◌, ◌<◌, ◌≤◌, Bool, if◌then◌else◌, nat_lt, List, [], ◌∷◌, ◌++◌, slice_set, replicate, Option, Some, None}
use Rattle.tib_lex.specs.Lists.{Has}
use Rattle.indexmap.specs.IndexSet.{insert_key}
use Rattle.tib_table.specs.Known.{on}
use Rattle.tib_hunt.specs.declared.event.Event.{Event}
use Rattle.tib_hunt.specs.declared.event.Event.TheVariants.{Draw, Number, File}

-- how many items are drawn, the keys on each shelf in the order of first sight, and the items whose
-- edges are filed
pub record Core (K : Type 0) : Type 0 where
  pub drawn : ℕ
  pub shelves : List (List K)
  pub filed : List ℕ

abbrev pub opened : {K : Type 0} → Core K
opened = record { drawn = 0; shelves = replicate 16 []; filed = [] }

-- the items of a round are `count` positions from the first one on
abbrev pub IsItem : ℕ → ℕ → ℕ → Type 0
IsItem first count i = (first ≤ i) × (i < first + count)

-- the item that a draw returns
abbrev pub next_item : {K : Type 0} → ℕ → ℕ → Core K → Option ℕ
next_item first count s = if nat_lt s.drawn count then Some (first + s.drawn) else None

-- the state after a draw
abbrev pub with_draw : {K : Type 0} → ℕ → Core K → Core K
with_draw count s = record { drawn = if nat_lt s.drawn count then s.drawn + 1 else s.drawn; shelves = s.shelves; filed = s.filed }

-- the state after a key is numbered: a new key is appended to its shelf
abbrev pub with_key : {K : Type 0} → (K → K → Bool) → (K → ℕ) → Core K → K → Core K
with_key eq shelf_of s k = record { drawn = s.drawn; shelves = slice_set s.shelves (shelf_of k) (insert_key eq (on s.shelves (shelf_of k)) k); filed = s.filed }

-- the state after an item is filed
abbrev pub with_filed : {K : Type 0} → Core K → ℕ → Core K
with_filed s i = record { drawn = s.drawn; shelves = s.shelves; filed = s.filed ++ i ∷ [] }

-- the item that was drawn, if one was, before those that were drawn later
abbrev pub put_item : Option ℕ → List ℕ → List ℕ
put_item None is = is
put_item (Some i) is = i ∷ is

-- A round of `count` items from `first` on; `is_end i k` says that the key k is an end of the item
-- i that is numbered.
module _ {K : Type 0} (eq : K → K → Bool) (shelf_of : K → ℕ) (first count : ℕ) (is_end : ℕ → K → Type 0) where
  abbrev pub IsDrawn : Core K → ℕ → Type 0
  IsDrawn s i = IsItem first s.drawn i

  -- the key is on its shelf
  abbrev pub IsShelved : Core K → K → Type 0
  IsShelved s k = Has (on s.shelves (shelf_of k)) k

  -- a key may be numbered that is such an end of a drawn item; a drawn item may be filed once, as
  -- soon as all these ends of it are numbered
  abbrev pub Allowed : Core K → Event K → Type 0
  Allowed s Draw = Unit {0}
  Allowed s (Number k) = (i : ℕ) × IsDrawn s i × is_end i k
  Allowed s (File i) = IsDrawn s i × (Has s.filed i → ⊥) × ((k : K) → is_end i k → IsShelved s k)

  abbrev pub after : Core K → Event K → Core K
  after s Draw = with_draw count s
  after s (Number k) = with_key eq shelf_of s k
  after s (File i) = with_filed s i

  -- the events lead from s to t, each allowed when it comes
  abbrev pub Runs : Core K → List (Event K) → Core K → Type 0
  Runs s [] t = t ≡ s
  Runs s (e ∷ es) t = Allowed s e × Runs (after s e) es t

  -- the items that the draws of a run return, in order
  abbrev pub draws : Core K → List (Event K) → List ℕ
  draws s [] = []
  draws s (Draw ∷ es) = put_item (next_item first count s) (draws (after s Draw) es)
  draws s (Number k ∷ es) = draws (after s (Number k)) es
  draws s (File i ∷ es) = draws (after s (File i)) es

  abbrev pub IsComplete : Core K → Type 0
  IsComplete s = (s.drawn ≡ count) × ((i : ℕ) → IsItem first count i → Has s.filed i)
