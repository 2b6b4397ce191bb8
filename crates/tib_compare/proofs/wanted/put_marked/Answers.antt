use Rattle.tib_compare.proofs.Raising.{rule_raised}
use Rattle.tib_compare.proofs.wanted.put_marked.Goals as goal

pub moved_rule-requires-clause-raised : goal.moved_rule-requires-clause-raised
moved_rule-requires-clause-raised c = rule_raised 1 c.args.rules.now c.loop-rule.rule-index c.rule-item.result c.loop-rule-test.true c.rule-item.is c.requires.raised
