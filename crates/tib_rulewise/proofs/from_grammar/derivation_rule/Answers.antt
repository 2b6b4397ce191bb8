use Rattle.tib_rulewise.proofs.DerivedRules.{rule_made}
use Rattle.tib_rulewise.proofs.from_grammar.derivation_rule.Goals as goal

pub returns : goal.returns
returns c =
    rule_made c.args.label c.count_holes-count.result c.args.rule.now c.items.result.now c.in_ok-left.left c.in_ok-right.right c.items.ensures.items c.count_holes-count.ensures
    c.in_ok-left.ensures c.in_ok-right.ensures
