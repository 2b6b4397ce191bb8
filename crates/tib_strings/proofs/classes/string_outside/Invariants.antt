use Rattle.std.proofs.Common.{ℕ, ◌<◌}
use Rattle.tib_strings.specs.Rules.{string_rule}
use Rattle.tib_strings.specs.Range.{IsLinear, IsNondeleting}
use Rattle.tib_strings.proofs.classes.string_outside.Given as goal

abbrev pub invariant-loop-i : goal.invariant-loop-i
invariant-loop-i g l = record {
  linear : (k : ℕ) → k < l.i → IsLinear (string_rule l.rules k);
  nondeleting : (k : ℕ) → k < l.i → IsNondeleting (string_rule l.rules k);
}
