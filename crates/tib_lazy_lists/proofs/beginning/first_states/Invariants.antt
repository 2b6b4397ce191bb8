use Rattle.std.specs.Prelude.{◌≡◌, length, map}
use Rattle.tib_lazy_lists.specs.AskingOf.{state_of}
use Rattle.tib_lazy_lists.specs.Beginnings.{AreFirstStates}
use Rattle.tib_lazy_lists.proofs.beginning.first_states.Given as goal

abbrev pub invariant-loop-state : goal.invariant-loop-state
invariant-loop-state g l = AreFirstStates g.S.Semiring.product l.lists (map state_of l.asked.items) × (length l.asked.items ≡ l.state)
