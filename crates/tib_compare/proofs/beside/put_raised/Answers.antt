use Rattle.tib_compare.proofs.Raising.{rule_raised}
use Rattle.tib_compare.proofs.beside.put_raised.Goals as goal

pub raised_left-left-requires : goal.raised_left-left-requires
raised_left-left-requires c = rule_raised c.args.by c.args.rules.now c.loop-rule.rule-index c.rule-item.result c.loop-rule-test.true c.rule-item.is c.requires.raised

pub moved_rule-requires-clause-raised : goal.moved_rule-requires-clause-raised
moved_rule-requires-clause-raised c = rule_raised c.args.by c.args.rules.now c.loop-rule.rule-index c.rule-item.result c.loop-rule-test.true c.rule-item.is c.requires.raised
