-- The parts of keys.
use Rattle.std.specs.Prelude.{ℕ, ◌+◌}

-- the parts of a key
abbrev pub key_parts : {K : Type 0} → (K → ℕ) → K → ℕ
key_parts entries k = 1 + entries k
