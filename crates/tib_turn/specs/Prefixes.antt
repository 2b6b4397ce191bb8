-- Prefixes of lists.
use Rattle.std.specs.Prelude.{◌≡◌, List, ◌++◌, length, nat_lt, if◌then◌else◌}

-- xs is a prefix of ys
abbrev pub IsPrefix : {E : Type 0} → List E → List E → Type 0
IsPrefix {E} xs ys = (rest : List E) × (ys ≡ xs ++ rest)

-- the longer of two lists, and the first of two that are equally long
abbrev pub longer : {E : Type 0} → List E → List E → List E
longer xs ys = if nat_lt (length xs) (length ys) then ys else xs
