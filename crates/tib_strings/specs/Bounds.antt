-- How far pairs can reach.
use Rattle.std.specs.Prelude.{◌≡◌, ℕ, ◌+◌, ◌-◌, ◌<◌, ◌≤◌, List, [], length, drop, Bool, true, false, Option, None, Some, if◌then◌else◌}
use Rattle.std.specs.Global.{Vec}
use Rattle.std.proofs.Common.{suc, get_or}
use Rattle.tib_strings.specs.declared.Word.{Word as Token}
use Rattle.tib_strings.specs.CutLists.{stands, cuts_of, reaches}

-- From the token at each position n on, up to the end, there is a bound for the places where it may
-- end, within the string's part: beyond it no list of places reaches j.
abbrev pub IsBound : List ℕ → List (Token ℕ) → ℕ → List ℕ → ℕ → Type 0
IsBound string ws j bounds n = (get_or bounds n 0 ≤ j) × ((k : ℕ) → get_or bounds n 0 < k → cuts_of string (drop (suc n) ws) k j ≡ [])

-- each token has such a bound
pub record AreBounds (string : List ℕ) (ws : List (Token ℕ)) (j : ℕ) (bounds : List ℕ) : Type 0 where
  pub long : length bounds ≡ length ws
  pub each : (n : ℕ) → n < length ws → IsBound string ws j bounds n

-- the row has, for each place from i to j, whether the tokens reach j from there
pub record IsRow (string : List ℕ) (ws : List (Token ℕ)) (i j : ℕ) (row : List Bool) : Type 0 where
  pub long : length row ≡ suc j - i
  pub at : (p : ℕ) → p < length row → get_or row p false ≡ reaches string ws j (i + p)

-- the place is the last of the row that is marked
pub record IsLast (row : List Bool) (last : ℕ) : Type 0 where
  pub below : last < length row
  pub marked : get_or row last false ≡ true
  pub behind : (p : ℕ) → last < p → get_or row p false ≡ false

-- one row comes of another before which a word is put
pub record PassesWord (string : List ℕ) (i f : ℕ) (old new : List Bool) : Type 0 where
  pub long : length new ≡ length old
  pub at : (p : ℕ) → p < length old → get_or new p false ≡ (if stands string (i + p) f then get_or old (p + 1) false else false)

-- one row comes of another before which a pair is put
pub record PassesPair (last : ℕ) (old new : List Bool) : Type 0 where
  pub long : length new ≡ length old
  pub low : (p : ℕ) → p < last → get_or new p false ≡ true
  pub high : (p : ℕ) → last ≤ p → get_or new p false ≡ get_or old p false

-- there are bounds, or there is no cut
abbrev pub FindsBounds : List ℕ → List (Token ℕ) → ℕ → ℕ → Option (Vec ℕ) → Type 0
FindsBounds string ws i j None = cuts_of string ws i j ≡ []
FindsBounds string ws i j (Some bounds) = AreBounds string ws j bounds.items
