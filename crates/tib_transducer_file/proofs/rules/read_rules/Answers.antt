use Rattle.std.proofs.Common.{arith, subst, List, ℕ, ap, length, refl}
use Rattle.std.specs.Prelude.{Ok}
use Rattle.tib_tree.proofs.Growing.{grows_twice, grows_not}
use Rattle.tib_grammar_file.proofs.RawRead.{text_within, text_no_feed}
use Rattle.tib_transducer_file.specs.Rule.{rule_line_by}
use Rattle.tib_transducer_file.specs.Built.{AddsLine}
use Rattle.tib_transducer_file.specs.Value.{IsRuleBy}
use Rattle.tib_transducer_file.proofs.FileRead.{rule_grows_by}
use Rattle.tib_transducer_file.proofs.RulesSoFar.{starts, goes, failed, ended, one_more}
use Rattle.tib_transducer_file.proofs.rules.read_rules.Goals as goal

pub loop-line-init : goal.loop-line-init
loop-line-init g c = record {
  within = omega (arith, c.requires.place);
  from = omega arith;
  number = omega (arith, c.requires.number);
  names = omega arith;
  labels = omega arith;
  rules_few = omega (arith, ap length c.new-rules.ensures.items);
  grows = grows_not _ _ refl;
  so_far = starts (IsRuleBy g.R.RightReader.view) (rule_grows_by g.R.RightReader.view) _ _ _ _ c.new-rules.ensures.items;
}

pub returns-in-Err-clause-rules : goal.returns-in-Err-clause-rules
returns-in-Err-clause-rules g c =
    failed (IsRuleBy g.R.RightReader.view) (rule_grows_by g.R.RightReader.view) (rule_line_by g.R.RightReader.reads c.args.scale) c.args.names.now c.loop-line.names c.add_line.new.names c.args.labels.now c.loop-line.labels c.add_line.new.labels c.loop-line.rules.items c.add_line.new.rules.items c.loop-line.number c.loop-line.at c.in-Some.line c.line_bytes.result.now c.args.bytes.now _ c.in-Err.error _
    c.in-Some.ensures.line c.line_bytes.ensures c.file_error.ensures c.in-Err.ensures.line c.loop-line.invariant.so_far

pub loop-line-preserved : goal.loop-line-preserved
loop-line-preserved g c =
    let i = c.loop-line.invariant in
    let next = c.in-Some.ensures.line in
    let w = text_within c.args.bytes.now c.loop-line.number c.loop-line.at c.in-Some.line c.line_bytes.result.now next c.line_bytes.ensures in
    record {
      within = next.ahead;
      from = omega (arith, i.from, next.goes_on);
      number = omega (arith, i.number, next.goes_on);
      names = omega (arith, i.names, i.from, w, c.add_line.ensures.few_names);
      labels = omega (arith, i.labels, i.from, w, c.add_line.ensures.few_labels);
      rules_few = omega (arith, i.rules_few, next.goes_on, one_more (IsRuleBy g.R.RightReader.view) (rule_grows_by g.R.RightReader.view) c.loop-line.names c.add_line.new.names c.loop-line.labels c.add_line.new.labels c.loop-line.rules.items c.add_line.new.rules.items _ c.in-Ok.ensures.line);
      grows = grows_twice _ _ _ i.grows c.add_line.ensures.labels;
      so_far = goes (IsRuleBy g.R.RightReader.view) (rule_grows_by g.R.RightReader.view) (rule_line_by g.R.RightReader.reads c.args.scale) c.args.names.now c.loop-line.names c.add_line.new.names c.args.labels.now c.loop-line.labels c.add_line.new.labels c.loop-line.rules.items c.add_line.new.rules.items c.loop-line.number c.loop-line.at c.in-Some.line c.args.bytes.now _
          next c.add_line.ensures.names c.add_line.ensures.labels
          (subst (λ (text : List ℕ). AddsLine (IsRuleBy g.R.RightReader.view) c.loop-line.names c.add_line.new.names c.loop-line.labels c.add_line.new.labels c.loop-line.rules.items c.add_line.new.rules.items (Ok tt) (rule_line_by g.R.RightReader.reads c.args.scale text)) c.line_bytes.ensures c.in-Ok.ensures.line) i.so_far;
    }

pub add_line-requires-clause-plain : goal.add_line-requires-clause-plain
add_line-requires-clause-plain g c = text_no_feed c.args.bytes.now c.loop-line.number c.loop-line.at c.in-Some.line c.line_bytes.result.now c.in-Some.ensures.line c.line_bytes.ensures

pub add_line-requires-clause-names : goal.add_line-requires-clause-names
add_line-requires-clause-names g c = omega (arith, c.requires.names, c.loop-line.invariant.names, c.loop-line.invariant.from, c.in-Some.ensures.line.ahead, text_within c.args.bytes.now c.loop-line.number c.loop-line.at c.in-Some.line c.line_bytes.result.now c.in-Some.ensures.line c.line_bytes.ensures)

pub add_line-requires-clause-labels : goal.add_line-requires-clause-labels
add_line-requires-clause-labels g c = omega (arith, c.requires.labels, c.loop-line.invariant.labels, c.loop-line.invariant.from, c.in-Some.ensures.line.ahead, text_within c.args.bytes.now c.loop-line.number c.loop-line.at c.in-Some.line c.line_bytes.result.now c.in-Some.ensures.line c.line_bytes.ensures)

pub returns-clause-rules : goal.returns-clause-rules
returns-clause-rules g c = ended (IsRuleBy g.R.RightReader.view) (rule_grows_by g.R.RightReader.view) (rule_line_by g.R.RightReader.reads c.args.scale) c.args.names.now c.loop-line.names c.args.labels.now c.loop-line.labels c.loop-line.rules.items c.loop-line.number c.loop-line.at c.args.bytes.now _ (c.in_default.ensures.none refl) c.loop-line.invariant.so_far
