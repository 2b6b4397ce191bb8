-- What is looked up in a vector.
use Rattle.std.specs.Prelude.{ℕ, List, [], ◌∷◌, nat_eq, if◌then◌else◌, Option, None, Some}

-- the residual of a state, none where it is not there
abbrev pub residual_in : ℕ → List (ℕ × ℕ) → Option ℕ
residual_in q [] = None
residual_in q (x ∷ v) = if nat_eq x.0 q then Some x.1 else residual_in q v
