-- Limits shared by crates that do not depend on each other.
use Rattle.std.specs.Prelude.{ℕ}

-- the most parts that a constructed object may have
abbrev pub most_parts : ℕ
most_parts = 20000000

-- the most bytes that a file may have
abbrev pub most_bytes : ℕ
most_bytes = 8388608
