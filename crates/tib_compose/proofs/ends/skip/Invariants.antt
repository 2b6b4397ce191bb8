use Rattle.std.proofs.Common.{◌≡◌, ℕ, List, length}
use Rattle.tib_grammar.specs.Sides.{Symbol}
use Rattle.tib_transducer.specs.declared.Pair.{Pair}
use Rattle.tib_compose.specs.Ends.{AreEnds, IsSkipped}
use Rattle.tib_compose.proofs.ends.skip.Given as goal

abbrev pub invariant-loop : goal.invariant-loop
invariant-loop l = (pairs : List (Symbol ℕ (Pair ℕ) × ℕ)) → length pairs ≡ length l.ends → AreEnds pairs l.ends l.from → IsSkipped pairs l.from l.counter l.at
