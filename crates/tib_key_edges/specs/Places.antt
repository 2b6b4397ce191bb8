-- The places in a list of the values that pass a test, or that have a shape.
use Rattle.std.specs.Prelude.{ℕ, Bool, List, [], ◌∷◌, if◌then◌else◌}
use Rattle.std.proofs.Common.{suc}

-- the places, of which the first is k, of the values that pass a test
abbrev pub places_from : {A : Type 0} → ℕ → (A → Bool) → List A → List ℕ
places_from k test [] = []
places_from k test (x ∷ xs) = if test x then k ∷ places_from (suc k) test xs else places_from (suc k) test xs

-- the positions, from 0, of the rules of a shape, where a test says which rules have it
abbrev pub positions_with : {R : Type 0} → (ℕ × ℕ × ℕ → R → Bool) → ℕ × ℕ × ℕ → List R → List ℕ
positions_with has_shape s rules = places_from 0 (has_shape s) rules
