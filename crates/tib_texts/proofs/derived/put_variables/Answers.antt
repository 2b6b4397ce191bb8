use Rattle.std.proofs.Common.{arith, ◌<◌, ◌≤◌, length, []}
use Rattle.tib_io.specs.Writing.{wrote_same}
use Rattle.tib_grammar.specs.Sides.{leaves}
use Rattle.tib_grammar_file.specs.FileText.{lines_text}
use Rattle.tib_grammar_file.specs.TreeText.{trees_text}
use Rattle.tib_grammar_file.proofs.PrintingLines.{no_rules, rule_failed, rule_more, rules_done}
use Rattle.tib_transducer_file.specs.Printed.{variable_text, symbol_text}
use Rattle.tib_rulewise.specs.Placed.{plain_variable, variables_from}
use Rattle.tib_rulewise.proofs.Placed.{length-variables}
use Rattle.tib_texts.proofs.VariableLines.{shown, shown_same, variable_in}
use Rattle.tib_texts.proofs.derived.put_variables.Goals as goal

pub loop-k-init : goal.loop-k-init
loop-k-init g c = no_rules g.W.Sink.seen c.args.out.now shown (variables_from 0 c.args.count)

pub returns-in-Err : goal.returns-in-Err
returns-in-Err g c =
    let low : c.loop-k.k < length (variables_from 0 c.args.count) = omega (arith, c.loop-k-test.true, length-variables 0 c.args.count) in
    wrote_same (g.W.Sink.seen c.args.out.now) (g.W.Sink.seen c.put_variable.new.out) (lines_text shown (variables_from 0 c.args.count))
    (trees_text (symbol_text (variable_text [] []) []) (leaves (variables_from 0 c.args.count)) 0) _ (shown_same 0 c.args.count)
    (rule_failed g.W.Sink.seen c.args.out.now c.loop-k.out shown (variables_from 0 c.args.count) c.loop-k.k c.put_variable.new.out c.loop-k.invariant (plain_variable c.loop-k.k) c.in-Err.field-0 low (variable_in c.args.count c.loop-k.k c.loop-k-test.true) c.in-Err.ensures)

pub loop-k-preserved : goal.loop-k-preserved
loop-k-preserved g c =
    let low : c.loop-k.k < length (variables_from 0 c.args.count) = omega (arith, c.loop-k-test.true, length-variables 0 c.args.count) in
    rule_more g.W.Sink.seen c.args.out.now c.loop-k.out shown (variables_from 0 c.args.count) c.loop-k.k c.put_variable.new.out c.loop-k.invariant (plain_variable c.loop-k.k) low (variable_in c.args.count c.loop-k.k c.loop-k-test.true) c.in-Ok.ensures

pub returns : goal.returns
returns g c =
    let all : length (variables_from 0 c.args.count) ≤ c.loop-k.k = omega (arith, c.loop-k-test.false, length-variables 0 c.args.count) in
    wrote_same (g.W.Sink.seen c.args.out.now) (g.W.Sink.seen c.loop-k.out) (lines_text shown (variables_from 0 c.args.count))
    (trees_text (symbol_text (variable_text [] []) []) (leaves (variables_from 0 c.args.count)) 0) _ (shown_same 0 c.args.count)
    (rules_done g.W.Sink.seen c.args.out.now c.loop-k.out shown (variables_from 0 c.args.count) c.loop-k.k c.loop-k.invariant all)
