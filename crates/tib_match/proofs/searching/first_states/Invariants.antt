use Rattle.std.proofs.Common.{◌≡◌, ◌++◌, drop}
use Rattle.tib_match.specs.Searching.{lows}
use Rattle.tib_match.proofs.searching.first_states.Given as goal

abbrev pub invariant-loop-span : goal.invariant-loop-span
invariant-loop-span l = l.states.items ++ lows (drop l.span-index l.spans) ≡ lows l.spans
