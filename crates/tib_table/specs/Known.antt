-- What the seats of a table know, and what closed shelves hold.
use Rattle.std.specs.Prelude.{◌≡◌, ℕ, List, [], ◌∷◌, length, Some, slice_get, slice_index_or}
use Rattle.atomic_table.specs.Seated.{TableId}
use Rattle.tib_turn.specs.Prefixes.{IsPrefix, longer}

-- what contracts see of a table: what its problem is about, and its locks
pub record TableOf (D : Type 0) : Type 0 where
  pub about : D
  pub locks : List TableId

-- what contracts see of seats: at which table they are, and the keys that they know of each shelf,
-- in the shelf's order
pub record Knowledge (D K : Type 0) : Type 0 where
  pub table : TableOf D
  pub known : List (List K)

module _ {K : Type 0} where
  -- the keys of a shelf
  abbrev pub on : List (List K) → ℕ → List K
  on shelves shelf = slice_index_or shelves shelf []

  -- the place on the shelf names the key
  abbrev pub Names : List (List K) → ℕ → ℕ → K → Type 0
  Names shelves shelf place key = slice_get (on shelves shelf) place ≡ Some key

  -- on each shelf, the old keys are the front of the new ones
  abbrev pub GoOn : List (List K) → List (List K) → Type 0
  GoOn old new = (shelf : ℕ) → IsPrefix (on old shelf) (on new shelf)

  -- each place that names a key still names it
  abbrev pub KeepNames : List (List K) → List (List K) → Type 0
  KeepNames old new = (shelf place : ℕ) (x : K) → Names old shelf place x → Names new shelf place x

  -- for each shelf, the longer of both lists
  abbrev pub longest : List (List K) → List (List K) → List (List K)
  longest [] yss = []
  longest (xs ∷ xss) [] = []
  longest (xs ∷ xss) (ys ∷ yss) = longer xs ys ∷ longest xss yss

  -- two keys never have one number, and a key never has two
  pub record IsNumbering (shelves : List (List K)) : Type 0 where
    pub one_key : (shelf place : ℕ) (x y : K) → Names shelves shelf place x →
        Names shelves shelf place y → x ≡ y
    pub one_number : (s p t q : ℕ) (x : K) → Names shelves s p x → Names shelves t q x → (s ≡ t)
        × (p ≡ q)

  -- sixteen shelves of keys that may be held, each on the shelf that it names, and each once
  pub record AreShelves (may_hold : K → Type 0) (shelf_of : K → ℕ)
      (shelves : List (List K)) : Type 0 where
    pub sixteen : length shelves ≡ 16
    pub held : (shelf place : ℕ) (x : K) → Names shelves shelf place x → may_hold x
        × (shelf_of x ≡ shelf)
    pub numbering : IsNumbering shelves
