-- A match as its states and its cost.
use Rattle.std.specs.Prelude.{ℕ, List}
use Rattle.tib_match.specs.declared.found_match.Match.TheInside.{Inside}
use Rattle.tib_match.specs.declared.partial.Partial.{Partial}

abbrev pub match_of : Inside → List ℕ × ℕ
match_of m = (m.states.items, m.cost)

-- the match that was found, where nothing waits
abbrev pub matched : Partial → List ℕ × ℕ
matched p = (p.states.items, p.cost)
