-- The loop that settles the states by their outside costs.
use Rattle.std.specs.Prelude.{ℕ, List, Option}
use Rattle.tib_grammar.specs.declared.Rule.{Rule}
use Rattle.tib_inside.specs.Inside.{IsInside}
use Rattle.tib_inside.specs.Settling.{costs_in}
use Rattle.tib_normal.specs.Entries.{TakesLeast}
use Rattle.tib_prune.specs.Outside.{IsOutside}
use Rattle.tib_prune.specs.Settling.{AreSettling}

-- these are the inside costs of the states, by number, and past the last one there are none
abbrev pub AreInsidesOfAll : (ℕ → ℕ → ℕ) → List (Rule ℕ) → List (Option ℕ) → Type 0
AreInsidesOfAll product rules costs = (q : ℕ) → IsInside product rules q (costs_in costs q)

-- these are the outside costs of the states, by number, and past the last one there are none
abbrev pub AreOutsides : (ℕ → ℕ → ℕ) → List (Rule ℕ) → List (Option ℕ) → Type 0
AreOutsides product rules costs = (q : ℕ) → IsOutside product rules q (costs_in costs q)

-- the least entry e is taken from what waits
pub record IsTaken (product : ℕ → ℕ → ℕ) (rules : List (Rule ℕ)) (insides outsides : List (Option ℕ))
    (e : ℕ × ℕ) (rest : List (ℕ × ℕ)) : Type 0 where
  pub entries : List (ℕ × ℕ)
  pub takes : TakesLeast entries e rest
  pub settling : AreSettling product rules (costs_in insides) (costs_in outsides) entries
