use Rattle.std.proofs.Common.{sym, subst}
use Rattle.std.proofs.lemmas.List.{get_or_read}
use Rattle.tib_transducer.specs.Rules.{no_rule}
use Rattle.tib_transducer.specs.Range.{IsShaped}
use Rattle.tib_rulewise.specs.Invertible.{IsInvertible}
use Rattle.tib_rulewise.proofs.from_transducer.inverse_rules.Goals as goal

pub inverse_rule-requires : goal.inverse_rule-requires
inverse_rule-requires c =
    let at = get_or_read c.args.rules.now c.loop-rule.rule-index c.rule-item.result c.loop-rule-test.true c.rule-item.is no_rule in
    record {
      shaped = subst IsShaped (sym at) (c.requires.shaped c.loop-rule.rule-index c.loop-rule-test.true);
      invertible = subst IsInvertible (sym at) (c.requires.invertible c.loop-rule.rule-index c.loop-rule-test.true);
    }
