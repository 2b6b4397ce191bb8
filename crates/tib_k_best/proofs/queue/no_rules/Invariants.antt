use Rattle.std.proofs.Common.{◌≡◌}
use Rattle.std.specs.Prelude.{replicate, map, []}
use Rattle.tib_k_best.specs.QueueOf.{rules_of}
use Rattle.tib_k_best.proofs.queue.no_rules.Given as goal

abbrev pub invariant-loop-state : goal.invariant-loop-state
invariant-loop-state l = map rules_of l.waiting.items ≡ replicate l._state []
