use Rattle.std.proofs.Common.{[], ◌≡◌, rules, get_or}
use Rattle.tib_apply.specs.Restrictions.{all_labels}
use Rattle.tib_apply.specs.Gathering.{gathered}
use Rattle.tib_apply.proofs.Gathered.{rule_gathered}
use Rattle.tib_apply.proofs.restrictions.labels_of_rules.Goals as goal

pub loop-rule-preserved : goal.loop-rule-preserved
loop-rule-preserved c =
    let here : c.rule-item.result ≡ get_or c.args.rules.now c.loop-rule.rule-index c.rule-item.result = search rules in
    rule_gathered c.args.rules.now c.loop-rule.rule-index c.rule-item.result c.loop-rule-test.true here c.items.result.now c.items.ensures.items c.loop-rule.labels.keys c.add_labels.new.labels.keys
    (gathered [] (all_labels c.args.rules.now)) (c.in_ok-add_labels.ensures) c.loop-rule.invariant
