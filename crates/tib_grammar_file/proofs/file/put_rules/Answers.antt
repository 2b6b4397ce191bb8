use Rattle.tib_grammar_file.proofs.PrintingLines.{no_rules, rule_failed, rule_more, rules_done}
use Rattle.tib_grammar_file.proofs.file.put_rules.Goals as goal

pub loop-rule-init : goal.loop-rule-init
loop-rule-init g c = no_rules g.W.Sink.seen c.args.out.now (g.N.RuleNotation.rule_text c.args.scale c.args.names.now c.args.labels.now) c.args.rules.now

pub returns-in-Err : goal.returns-in-Err
returns-in-Err g c = rule_failed g.W.Sink.seen c.args.out.now c.loop-rule.out (g.N.RuleNotation.rule_text c.args.scale c.args.names.now c.args.labels.now) c.args.rules.now c.loop-rule.rule-index c.put_rule.new.out c.loop-rule.invariant c.rule-item.result c.in-Err.field-0 c.loop-rule-test.true c.rule-item.is c.in-Err.ensures

pub loop-rule-preserved : goal.loop-rule-preserved
loop-rule-preserved g c = rule_more g.W.Sink.seen c.args.out.now c.loop-rule.out (g.N.RuleNotation.rule_text c.args.scale c.args.names.now c.args.labels.now) c.args.rules.now c.loop-rule.rule-index c.put_rule.new.out c.loop-rule.invariant c.rule-item.result c.loop-rule-test.true c.rule-item.is c.in-Ok.ensures

pub returns : goal.returns
returns g c = rules_done g.W.Sink.seen c.args.out.now c.loop-rule.out (g.N.RuleNotation.rule_text c.args.scale c.args.names.now c.args.labels.now) c.args.rules.now c.loop-rule.rule-index c.loop-rule.invariant c.loop-rule-test.false
