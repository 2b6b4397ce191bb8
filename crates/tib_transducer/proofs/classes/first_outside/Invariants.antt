use Rattle.std.proofs.Common.{◌≡◌, ℕ, ◌<◌}
use Rattle.tib_transducer.specs.Rules.{transducer_rule}
use Rattle.tib_transducer.specs.Outside.{demands, Meets}
use Rattle.tib_transducer.proofs.classes.first_outside.Given as goal

abbrev pub invariant-loop-rule : goal.invariant-loop-rule
invariant-loop-rule g l = record {
  numbered : l.number ≡ l.rule-index;
  before : (m : ℕ) → m < l.rule-index →
      Meets (demands l.linear l.nondeleting l.one_label l.unlabelled l.strict) (transducer_rule l.rule-items m);
}
