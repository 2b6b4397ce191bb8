-- Cuts of a list of words and pairs over the places of a string. Of a string of n words the places
-- are the numbers from 0 to n: place i comes before the word at position i.
use Rattle.std.specs.Prelude.{◌≡◌, ℕ, ◌<◌, ◌≤◌, List, [], ◌∷◌, length}
use Rattle.std.proofs.Common.{suc, get_or}
use Rattle.tib_strings.specs.declared.Word.{Word as Token}
use Rattle.tib_strings.specs.declared.Word.TheVariants.{Word, Hole}

-- A word goes on from its place to the next one, and is the word of the string between them; a pair
-- goes on by zero or more places.
abbrev pub IsStep : List ℕ → Token ℕ → ℕ → ℕ → Type 0
IsStep string (Word f) i j = (j ≡ suc i) × (i < length string) × (get_or string i 0 ≡ f)
IsStep string (Hole x) i j = i ≤ j

-- A cut of the list from i to j: the place after each token, each a step from the one before; the
-- first step is from i, and the last place is j.
abbrev pub IsCut : List ℕ → List (Token ℕ) → ℕ → ℕ → List ℕ → Type 0
IsCut string [] i j [] = i ≡ j
IsCut string [] i j (k ∷ ks) = ⊥
IsCut string (w ∷ ws) i j [] = ⊥
IsCut string (w ∷ ws) i j (k ∷ ks) = IsStep string w i k × IsCut string ws k j ks

-- the places before and after each pair, where the first token is at i
abbrev pub spans : List (Token ℕ) → ℕ → List ℕ → List (ℕ × ℕ)
spans [] i ks = []
spans (w ∷ ws) i [] = []
spans (Word f ∷ ws) i (k ∷ ks) = spans ws k ks
spans (Hole x ∷ ws) i (k ∷ ks) = (i, k) ∷ spans ws k ks
