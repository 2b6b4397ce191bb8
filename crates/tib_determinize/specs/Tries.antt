-- The lists of positions that are tried for a position of an order: for each place at which it is
-- last, the places before have any position up to this one, and those after it one below this one.
-- They are chosen from the last place on.
use Rattle.std.specs.Prelude.{ℕ, nat_eq, nat_lt, List, [], ◌∷◌, ◌++◌, map, if◌then◌else◌}
use Rattle.std.proofs.Common.{zero, suc}

-- the first position at a place, where n is last at the place j
abbrev pub first_at : ℕ → ℕ → ℕ → ℕ
first_at n j i = if nat_eq i j then n else 0

-- and how many there are
abbrev pub many_at : ℕ → ℕ → ℕ → ℕ
many_at n j i = if nat_eq i j then 1 else (if nat_lt j i then n else suc n)

-- what is listed for some positions from p on
abbrev pub span : {A : Type 0} → (ℕ → List A) → ℕ → ℕ → List A
span g p zero = []
span g p (suc c) = g p ++ span g (suc p) c

-- the lists that end in these positions, over i places before them
abbrev pub under : ℕ → ℕ → ℕ → List ℕ → List (List ℕ)
under n j zero ps = ps ∷ []
under n j (suc i) ps = span (λ p. under n j i (p ∷ ps)) (first_at n j i) (many_at n j i)

-- the lists over k places, for some last places from j on
abbrev pub by_last : ℕ → ℕ → ℕ → ℕ → List (List ℕ)
by_last n k j c = span (λ i. under n i k []) j c

-- these lists after a label
abbrev pub behind_label : ℕ → List (List ℕ) → List (ℕ × List ℕ)
behind_label f pss = map (λ ps. (f, ps)) pss

-- all that are tried for a position, by the labels and ranks
abbrev pub tries : ℕ → List (ℕ × ℕ) → List (ℕ × List ℕ)
tries n [] = []
tries n (s ∷ shapes) = behind_label s.0 (by_last n s.1 0 s.1) ++ tries n shapes

-- a label over no positions, where its rank is 0
abbrev pub leaf_try : ℕ × ℕ → List (ℕ × List ℕ)
leaf_try s = if nat_eq s.1 0 then (s.0, []) ∷ [] else []

-- the labels of rank 0, over no positions
abbrev pub leaf_tries : List (ℕ × ℕ) → List (ℕ × List ℕ)
leaf_tries [] = []
leaf_tries (s ∷ shapes) = leaf_try s ++ leaf_tries shapes
