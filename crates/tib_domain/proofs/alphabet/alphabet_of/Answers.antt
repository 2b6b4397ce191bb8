use Rattle.std.proofs.Common.{◌≡◌, rules, get_or}
use Rattle.tib_domain.specs.Alphabet.{alphabet}
use Rattle.tib_domain.proofs.Steps.{rule_gathered}
use Rattle.tib_domain.proofs.alphabet.alphabet_of.Goals as goal

pub loop-rule-preserved : goal.loop-rule-preserved
loop-rule-preserved c =
    let here : c.rule-item.result ≡ get_or c.args.rules.now c.loop-rule.rule-index c.rule-item.result = search rules in
    rule_gathered c.args.rules.now c.loop-rule.rule-index c.rule-item.result c.loop-rule-test.true here c.items.result.now c.items.ensures.items c.loop-rule.symbols.keys c.add_symbols.new.symbols.keys
    (alphabet c.args.rules.now) c.in_ok-add_symbols.ensures c.loop-rule.invariant
