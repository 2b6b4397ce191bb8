use Rattle.std.proofs.Common.{arith, subst, List, ℕ, ap, length}
use Rattle.std.specs.Prelude.{Ok}
use Rattle.tib_grammar_file.specs.Raw.{AddsLine}
use Rattle.tib_grammar_file.specs.Rule.{rule_line}
use Rattle.tib_grammar_file.proofs.RawRead.{starts, goes, failed, text_within, text_no_feed}
use Rattle.tib_grammar_file.proofs.raw.read_rules.Goals as goal

pub loop-line-init : goal.loop-line-init
loop-line-init c = record {
  within = omega (arith, c.requires.place);
  number = omega (arith, c.requires.number);
  names = omega arith;
  texts = omega arith;
  nodes = omega (arith, ap length c.new-2.ensures.items);
  from = omega arith;
  so_far = starts _ _ _ _ c.new.ensures.items c.new-2.ensures.items;
}

pub returns-in-Err-clause-rules : goal.returns-in-Err-clause-rules
returns-in-Err-clause-rules c =
    failed (rule_line c.args.scale) c.args.names.now c.loop-line.names c.add_line.new.names c.loop-line.texts c.add_line.new.texts c.loop-line.raw c.add_line.new.raw c.loop-line.number c.loop-line.at c.in-Some.line c.line_bytes.result.now c.args.bytes.now _ c.in-Err.error _
    c.in-Some.ensures.line c.line_bytes.ensures c.file_error.ensures c.in-Err.ensures.line c.loop-line.invariant.so_far

pub loop-line-preserved : goal.loop-line-preserved
loop-line-preserved c =
    let i = c.loop-line.invariant in
    let next = c.in-Some.ensures.line in
    record {
      within = next.ahead;
      number = omega (arith, i.number, next.goes_on);
      names = omega (arith, i.names, i.from, next.goes_on, c.add_line.ensures.few_names);
      texts = omega (arith, i.texts, i.from, text_within c.args.bytes.now c.loop-line.number c.loop-line.at c.in-Some.line c.line_bytes.result.now next c.line_bytes.ensures, c.add_line.ensures.few_texts);
      nodes = omega (arith, i.nodes, i.from, text_within c.args.bytes.now c.loop-line.number c.loop-line.at c.in-Some.line c.line_bytes.result.now next c.line_bytes.ensures, c.in-Ok.ensures.few_nodes);
      from = omega (arith, i.from, next.goes_on);
      so_far = goes (rule_line c.args.scale) c.args.names.now c.loop-line.names c.add_line.new.names c.loop-line.texts c.add_line.new.texts c.loop-line.raw c.add_line.new.raw c.loop-line.number c.loop-line.at c.in-Some.line c.args.bytes.now _
          next c.add_line.ensures.names c.add_line.ensures.texts
          (subst (λ (text : List ℕ). AddsLine c.loop-line.names c.add_line.new.names c.add_line.new.texts c.loop-line.raw c.add_line.new.raw (Ok tt) (rule_line c.args.scale text)) c.line_bytes.ensures c.in-Ok.ensures.line) i.so_far;
    }

pub add_line-requires-clause-plain : goal.add_line-requires-clause-plain
add_line-requires-clause-plain c = text_no_feed c.args.bytes.now c.loop-line.number c.loop-line.at c.in-Some.line c.line_bytes.result.now c.in-Some.ensures.line c.line_bytes.ensures

pub add_line-requires-clause-names : goal.add_line-requires-clause-names
add_line-requires-clause-names c =
    let i = c.loop-line.invariant in
    omega (arith, i.names, i.from, i.within, c.in-Some.ensures.more, c.requires.names)

pub add_line-requires-clause-texts : goal.add_line-requires-clause-texts
add_line-requires-clause-texts c =
    let i = c.loop-line.invariant in
    let next = c.in-Some.ensures.line in
    omega (arith, i.texts, i.from, next.ahead, text_within c.args.bytes.now c.loop-line.number c.loop-line.at c.in-Some.line c.line_bytes.result.now next c.line_bytes.ensures, c.requires.texts)
