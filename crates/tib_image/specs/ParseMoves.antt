-- The rules of a transducer by their state.
use Rattle.std.specs.Prelude.{◌≡◌, ℕ, List, map}
use Rattle.tib_strings.specs.declared.StringRule.{StringRule}
use Rattle.tib_transducer.specs.Moves.{moves_of, held}
use Rattle.tib_image.specs.Restrictions.{as_rule}
use Rattle.tib_image.specs.declared.parse.moves.Moves.{Moves}

-- each state has the positions of its rules
abbrev pub IsMoves : List (StringRule ℕ) → Moves → Type 0
IsMoves rules moves = (state : ℕ) → held moves.buckets.items state ≡ moves_of state (map as_rule rules)
