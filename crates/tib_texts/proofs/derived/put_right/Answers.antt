use Rattle.std.proofs.Common.{refl, ◌++◌}
use Rattle.tib_transducer_file.specs.Printed.{pair_text, side_text, end_text}
use Rattle.tib_rulewise.specs.Placed.{placed_side}
use Rattle.tib_rulewise.specs.Derivations.{read_from}
use Rattle.tib_io.specs.declared.files.Failed.{Failed}
use Rattle.tib_grammar_file.proofs.Printing.{seq, cut}
use Rattle.tib_texts.proofs.derived.put_right.Goals as goal

pub returns-in-Ok : goal.returns-in-Ok
returns-in-Ok g c =
    seq (Unit {0}) (Unit {0}) Failed g.W.Sink.seen c.args.out.now c.put_output.new.out c.put_end.new.out (side_text (pair_text c.args.names.now c.args.labels.now) c.args.labels.now (placed_side read_from c.args.rule.now.right)) (end_text c.args.scale c.args.rule.now.cost) ((side_text (pair_text c.args.names.now c.args.labels.now) c.args.labels.now (placed_side read_from c.args.rule.now.right)) ++ (end_text c.args.scale c.args.rule.now.cost)) tt _ refl c.in-Ok.ensures c.put_end.ensures

pub returns-in-Err : goal.returns-in-Err
returns-in-Err g c =
    cut (Unit {0}) (Unit {0}) Failed g.W.Sink.seen c.args.out.now c.put_output.new.out (side_text (pair_text c.args.names.now c.args.labels.now) c.args.labels.now (placed_side read_from c.args.rule.now.right)) (end_text c.args.scale c.args.rule.now.cost) ((side_text (pair_text c.args.names.now c.args.labels.now) c.args.labels.now (placed_side read_from c.args.rule.now.right)) ++ (end_text c.args.scale c.args.rule.now.cost)) _ refl c.in-Err.ensures
