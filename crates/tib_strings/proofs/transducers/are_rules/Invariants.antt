use Rattle.std.proofs.Common.{ℕ, ◌<◌}
use Rattle.tib_strings.specs.Rules.{string_rule}
use Rattle.tib_strings.specs.Range.{IsShaped, IsWithin}
use Rattle.tib_strings.proofs.transducers.are_rules.Given as goal

abbrev pub invariant-loop-rule : goal.invariant-loop-rule
invariant-loop-rule l = record {
  shaped : (k : ℕ) → k < l.rule-index → IsShaped (string_rule l.rules k);
  within : (k : ℕ) → k < l.rule-index → IsWithin l.n (string_rule l.rules k);
}
