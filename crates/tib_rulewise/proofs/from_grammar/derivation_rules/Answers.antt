use Rattle.std.proofs.Common.{◌≡◌, ℕ, ◌+◌, arith, subst, length}
use Rattle.std.proofs.lemmas.List.{take_all, get_or_read}
use Rattle.tib_tree.specs.Grows.{AddsAll}
use Rattle.tib_grammar.specs.Run.{no_rule}
use Rattle.tib_rulewise.specs.Derivations.{rule_texts, AreDerivationRules}
use Rattle.tib_rulewise.proofs.RuleTexts.{grows_on, adds_more}
use Rattle.tib_rulewise.proofs.DerivedRules.{derived_more}
use Rattle.tib_rulewise.proofs.from_grammar.derivation_rules.Goals as goal

pub loop-rule-preserved : goal.loop-rule-preserved
loop-rule-preserved c =
    let i = c.loop-rule.invariant in
    let count : c.loop-rule.number + 1 ≡ c.loop-rule.rule-index + 1 = omega arith in
    record {
      numbered = omega arith;
      derived = derived_more c.loop-rule.labels c.label_of_rule.new.labels c.args.rules.now c.loop-rule.rule-index c.in_ok-label.label (c.loop-rule.number + 1) c.rule-item.result c.loop-rule.derived.items c.push.new.self.items
          c.in_ok-derivation_rule.field-0 c.loop-rule-test.true (get_or_read c.args.rules.now c.loop-rule.rule-index c.rule-item.result c.loop-rule-test.true c.rule-item.is no_rule) count
          c.in_ok-label.ensures.grows c.in_ok-label.ensures.named c.in_ok-derivation_rule.ensures c.in_ok-push.ensures.items i.derived;
      grows = grows_on c.args.labels.now c.loop-rule.labels c.label_of_rule.new.labels i.grows c.in_ok-label.ensures.grows;
      adds = adds_more c.args.labels.now c.loop-rule.labels c.label_of_rule.new.labels c.loop-rule.rule-index c.loop-rule.number i.numbered i.adds c.in_ok-label.ensures.adds;
    }

pub returns-clause-rules : goal.returns-clause-rules
returns-clause-rules c =
    subst (λ rs. AreDerivationRules c.loop-rule.labels rs c.loop-rule.derived.items) (take_all c.loop-rule.rule-index c.args.rules.now c.loop-rule-test.false) c.loop-rule.invariant.derived

pub returns-clause-adds : goal.returns-clause-adds
returns-clause-adds c =
    let end : c.loop-rule.rule-index ≡ length c.args.rules.now = omega arith in
    subst (λ (n : ℕ). AddsAll c.args.labels.now (rule_texts 1 n) c.loop-rule.labels) end c.loop-rule.invariant.adds
