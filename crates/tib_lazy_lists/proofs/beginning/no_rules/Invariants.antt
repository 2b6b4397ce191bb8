use Rattle.std.specs.Prelude.{◌≡◌, ℕ, [], length, map}
use Rattle.std.proofs.Common.{get_or}
use Rattle.tib_lazy_lists.specs.AskingOf.{rules_of}
use Rattle.tib_lazy_lists.proofs.beginning.no_rules.Given as goal

abbrev pub invariant-loop-state : goal.invariant-loop-state
invariant-loop-state l = ((q : ℕ) → get_or (map rules_of l.by_state.items) q [] ≡ []) × (length l.by_state.items ≡ l._state)
