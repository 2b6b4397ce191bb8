use Rattle.std.proofs.Common.{refl, [], ◌++◌}
use Rattle.tib_grammar.specs.Sides.{leaves}
use Rattle.tib_grammar_file.specs.TreeText.{closing, trees_text}
use Rattle.tib_transducer_file.specs.Printed.{variable_text, symbol_text}
use Rattle.tib_rulewise.specs.Placed.{variables_from}
use Rattle.tib_io.specs.declared.files.Failed.{Failed}
use Rattle.tib_grammar_file.proofs.Printing.{seq, cut}
use Rattle.tib_texts.proofs.derived.put_closed.Goals as goal

pub returns-in-Ok : goal.returns-in-Ok
returns-in-Ok g c =
    seq (Unit {0}) (Unit {0}) Failed g.W.Sink.seen c.args.out.now c.put_variables.new.out c.put_closing.new.out (trees_text (symbol_text (variable_text [] []) []) (leaves (variables_from 0 c.args.count)) 0) (closing c.args.count) ((trees_text (symbol_text (variable_text [] []) []) (leaves (variables_from 0 c.args.count)) 0) ++ (closing c.args.count)) tt _ refl c.in-Ok.ensures c.put_closing.ensures

pub returns-in-Err : goal.returns-in-Err
returns-in-Err g c =
    cut (Unit {0}) (Unit {0}) Failed g.W.Sink.seen c.args.out.now c.put_variables.new.out (trees_text (symbol_text (variable_text [] []) []) (leaves (variables_from 0 c.args.count)) 0) (closing c.args.count) ((trees_text (symbol_text (variable_text [] []) []) (leaves (variables_from 0 c.args.count)) 0) ++ (closing c.args.count)) _ refl c.in-Err.ensures
