-- The keys that have the start of the first grammar and not that of the second.
use Rattle.std.specs.Prelude.{ℕ, nat_eq, if◌then◌else◌, List, [], ◌∷◌, Option, None, Some}
use Rattle.std.proofs.Common.{suc}
use Rattle.tib_difference.specs.Difference.{KeyOf}
use Rattle.tib_difference.specs.Lefts.{holds}

-- the cost at which a key ends, if it does
abbrev pub final_in : KeyOf → Option ℕ
final_in k = if nat_eq k.0 0 then (if holds k.1 0 then None else Some 0) else None

-- with a further position at a cost, if there is one
abbrev pub with_cost : ℕ → Option ℕ → List (ℕ × ℕ) → List (ℕ × ℕ)
with_cost i None more = more
with_cost i (Some c) more = (i, c) ∷ more

-- the positions, from i on, whose keys end at a cost
abbrev pub listed_finals : ℕ → List KeyOf → List (ℕ × ℕ)
listed_finals i [] = []
listed_finals i (k ∷ order) = with_cost i (final_in k) (listed_finals (suc i) order)
