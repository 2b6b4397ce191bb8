-- Cuts begun: the places after the first tokens of a list, the last of them on top, as a search
-- that tries places from the least on holds them.
use Rattle.std.specs.Prelude.{ℕ, ◌-◌, List, [], ◌∷◌, ◌++◌, length, map, drop}
use Rattle.std.proofs.Common.{suc}
use Rattle.tib_strings.specs.declared.Word.{Word as Token}
use Rattle.tib_strings.specs.declared.Word.TheVariants.{Word, Hole}
use Rattle.tib_strings.specs.CutLists.{over_places, cuts_of}

-- a list from its end to its start
abbrev pub back : List ℕ → List ℕ
back [] = []
back (k ∷ ks) = back ks ++ k ∷ []

-- the place on top, where the first token is at i
abbrev pub top : ℕ → List ℕ → ℕ
top i [] = i
top i (k ∷ rs) = k

-- each list after the places that are begun
abbrev pub plug : List ℕ → List (List ℕ) → List (List ℕ)
plug [] xs = xs
plug (k ∷ rs) xs = plug rs (map (λ (l : List ℕ). k ∷ l) xs)

module _ (string : List ℕ) (ws : List (Token ℕ)) (i j : ℕ) where
  -- the cuts that begin so
  abbrev pub inside : List ℕ → List (List ℕ)
  inside rs = plug rs (cuts_of string (drop (length rs) ws) (top i rs) j)

  -- what goes on otherwise at the first of some tokens, after place k: a pair at a later place
  abbrev pub further : List (Token ℕ) → ℕ → List (List ℕ)
  further [] k = []
  further (Word f ∷ rest) k = []
  further (Hole x ∷ rest) k = over_places (λ m. cuts_of string rest m j) (suc k) (j - k)

  -- the cuts that begin so up to some token and go on there at a later place, the last token first
  abbrev pub behind : List ℕ → List (List ℕ)
  behind [] = []
  behind (k ∷ rs) = plug rs (further (drop (length rs) ws) k) ++ behind rs

  -- the cuts that are still to come
  abbrev pub to_come : List ℕ → List (List ℕ)
  to_come rs = inside rs ++ behind rs
