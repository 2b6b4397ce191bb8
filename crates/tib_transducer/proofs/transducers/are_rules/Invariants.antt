use Rattle.std.proofs.Common.{ℕ, ◌<◌}
use Rattle.tib_transducer.specs.Rules.{transducer_rule}
use Rattle.tib_transducer.specs.Range.{IsShaped, IsWithin, EndsInHoles}
use Rattle.tib_transducer.proofs.transducers.are_rules.Given as goal

abbrev pub invariant-loop-rule : goal.invariant-loop-rule
invariant-loop-rule l = record {
  shaped : (k : ℕ) → k < l.rule-index → IsShaped (transducer_rule l.rules k);
  within : (k : ℕ) → k < l.rule-index → IsWithin l.n (transducer_rule l.rules k);
  leaves : (k : ℕ) → k < l.rule-index → EndsInHoles (transducer_rule l.rules k);
}
