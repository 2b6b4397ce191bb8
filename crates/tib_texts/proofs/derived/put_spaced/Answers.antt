use Rattle.std.proofs.Common.{refl, ◌++◌}
use Rattle.tib_grammar.specs.Items.{pair_of}
use Rattle.tib_grammar_file.specs.TreeText.{space}
use Rattle.tib_transducer_file.specs.Printed.{pair_text, symbol_text}
use Rattle.tib_rulewise.specs.Placed.{item_with}
use Rattle.tib_rulewise.specs.Derivations.{read_from}
use Rattle.tib_io.specs.declared.files.Failed.{Failed}
use Rattle.tib_grammar_file.proofs.Printing.{seq, cut}
use Rattle.tib_texts.proofs.derived.put_spaced.Goals as goal

pub returns-in-Ok : goal.returns-in-Ok
returns-in-Ok g c =
    seq (Unit {0}) (Unit {0}) Failed g.W.Sink.seen c.args.out.now c.put_space.new.out c.put_symbol.new.out (space c.args.k) (symbol_text (pair_text c.args.names.now c.args.labels.now) c.args.labels.now (pair_of (item_with (read_from c.args.variable) c.args.item.now)).0) ((space c.args.k) ++ (symbol_text (pair_text c.args.names.now c.args.labels.now) c.args.labels.now (pair_of (item_with (read_from c.args.variable) c.args.item.now)).0)) tt _ refl c.in-Ok.ensures c.put_symbol.ensures

pub returns-in-Err : goal.returns-in-Err
returns-in-Err g c =
    cut (Unit {0}) (Unit {0}) Failed g.W.Sink.seen c.args.out.now c.put_space.new.out (space c.args.k) (symbol_text (pair_text c.args.names.now c.args.labels.now) c.args.labels.now (pair_of (item_with (read_from c.args.variable) c.args.item.now)).0) ((space c.args.k) ++ (symbol_text (pair_text c.args.names.now c.args.labels.now) c.args.labels.now (pair_of (item_with (read_from c.args.variable) c.args.item.now)).0)) _ refl c.in-Err.ensures
