use Rattle.std.proofs.Common.{◌≡◌, ◌+◌, ◌<◌, ◌≤◌, arith, length}
use Rattle.std.proofs.lemmas.List.{get_or_read}
use Rattle.tib_io.specs.Writing.{wrote_same}
use Rattle.tib_grammar.specs.Run.{no_rule}
use Rattle.tib_grammar_file.proofs.PrintingLines.{rule_failed, rule_more, rules_done}
use Rattle.tib_transducer.specs.Rules.{transducer_rule}
use Rattle.tib_transducer_file.specs.Printed.{rule_text}
use Rattle.tib_texts.specs.RuleLines.{derivation_line}
use Rattle.tib_texts.proofs.LinesDerived.{line_at, rule_in}
use Rattle.tib_texts.proofs.derived.put_lines.Goals as goal

pub returns-in-Err : goal.returns-in-Err
returns-in-Err g c = λ all derived grows made.
    let at = get_or_read c.args.rules.now c.loop-rule.rule-index c.rule-item.result c.loop-rule-test.true c.rule-item.is no_rule in
    let count : c.loop-rule.number + 1 ≡ c.loop-rule.rule-index + 1 = omega (arith, c.loop-rule.invariant.numbered) in
    let same = line_at c.args.scale c.args.names.now c.args.labels.now all c.args.rules.now derived grows made c.requires.labelled c.loop-rule.rule-index (c.loop-rule.number + 1) c.rule-item.result c.loop-rule-test.true at count in
    let low : c.loop-rule.rule-index < length derived = omega (arith, c.loop-rule-test.true, made.many) in
    let here = rule_in c.args.rules.now derived all made c.loop-rule.rule-index c.loop-rule-test.true in
    rule_failed g.W.Sink.seen c.args.out.now c.loop-rule.out (rule_text c.args.scale c.args.names.now all) derived c.loop-rule.rule-index c.put_line.new.out (c.loop-rule.invariant.half all derived grows made) (transducer_rule derived c.loop-rule.rule-index) c.in-Err.field-0 low here
    (wrote_same (g.W.Sink.seen c.loop-rule.out) (g.W.Sink.seen c.put_line.new.out) (derivation_line c.args.scale c.args.names.now c.args.labels.now (c.loop-rule.number + 1) c.rule-item.result) (rule_text c.args.scale c.args.names.now all (transducer_rule derived c.loop-rule.rule-index)) _ same c.in-Err.ensures)

pub loop-rule-preserved : goal.loop-rule-preserved
loop-rule-preserved g c = record {
  numbered = omega (arith, c.loop-rule.invariant.numbered);
  half = λ all derived grows made.
      let at = get_or_read c.args.rules.now c.loop-rule.rule-index c.rule-item.result c.loop-rule-test.true c.rule-item.is no_rule in
      let count : c.loop-rule.number + 1 ≡ c.loop-rule.rule-index + 1 = omega (arith, c.loop-rule.invariant.numbered) in
      let same = line_at c.args.scale c.args.names.now c.args.labels.now all c.args.rules.now derived grows made c.requires.labelled c.loop-rule.rule-index (c.loop-rule.number + 1) c.rule-item.result c.loop-rule-test.true at count in
      let low : c.loop-rule.rule-index < length derived = omega (arith, c.loop-rule-test.true, made.many) in
      let here = rule_in c.args.rules.now derived all made c.loop-rule.rule-index c.loop-rule-test.true in
      rule_more g.W.Sink.seen c.args.out.now c.loop-rule.out (rule_text c.args.scale c.args.names.now all) derived c.loop-rule.rule-index c.put_line.new.out (c.loop-rule.invariant.half all derived grows made) (transducer_rule derived c.loop-rule.rule-index) low here
      (wrote_same (g.W.Sink.seen c.loop-rule.out) (g.W.Sink.seen c.put_line.new.out) (derivation_line c.args.scale c.args.names.now c.args.labels.now (c.loop-rule.number + 1) c.rule-item.result) (rule_text c.args.scale c.args.names.now all (transducer_rule derived c.loop-rule.rule-index)) _ same c.in-Ok.ensures);
}

pub returns : goal.returns
returns g c = λ all derived grows made.
    let end : length derived ≤ c.loop-rule.rule-index = omega (arith, c.loop-rule-test.false, made.many) in
    rules_done g.W.Sink.seen c.args.out.now c.loop-rule.out (rule_text c.args.scale c.args.names.now all) derived c.loop-rule.rule-index (c.loop-rule.invariant.half all derived grows made) end
