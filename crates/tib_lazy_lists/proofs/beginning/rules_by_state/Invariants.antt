use Rattle.std.specs.Prelude.{◌≡◌, length, map}
use Rattle.tib_lazy_lists.specs.AskingOf.{rules_of}
use Rattle.tib_lazy_lists.specs.Beginnings.{AreSomeByState}
use Rattle.tib_lazy_lists.proofs.beginning.rules_by_state.Given as goal

abbrev pub invariant-loop-rule : goal.invariant-loop-rule
invariant-loop-rule l = AreSomeByState l.lists.rules l.rule (map rules_of l.by_state.items) × (length l.by_state.items ≡ length l.lists.lists)
