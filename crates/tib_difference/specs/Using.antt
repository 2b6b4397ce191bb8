-- Rules that use a state, each with a place at which it is.
use Rattle.std.specs.Prelude.{ℕ, ◌<◌, List, length}
use Rattle.tib_grammar.specs.declared.Rule.{Rule}
use Rattle.tib_difference.specs.Tries.{states_in}

-- a rule, and one of its places
abbrev pub IsUser : List (Rule ℕ) → ℕ × ℕ → Type 0
IsUser one u = (u.0 < length one) × (u.1 < length (states_in one u.0))
