use Rattle.std.proofs.Common.{refl, ◌∷◌, [], ◌++◌}
use Rattle.std.specs.Prelude.{decimal}
use Rattle.tib_texts.specs.RuleLines.{below_line}
use Rattle.tib_io.specs.declared.files.Failed.{Failed}
use Rattle.tib_grammar_file.proofs.Printing.{seq, cut}
use Rattle.tib_texts.proofs.derived.put_read.Goals as goal

pub returns-in-Ok : goal.returns-in-Ok
returns-in-Ok g c =
    seq (Unit {0}) (Unit {0}) Failed g.W.Sink.seen c.args.out.now c.put_root.new.out c.put_reader.new.out (46 ∷ (114 ∷ []) ++ decimal c.args.number) (below_line c.args.scale c.args.names.now c.args.labels.now c.args.rule.now) ((46 ∷ (114 ∷ []) ++ decimal c.args.number) ++ (below_line c.args.scale c.args.names.now c.args.labels.now c.args.rule.now)) tt _ refl c.in-Ok.ensures c.put_reader.ensures

pub returns-in-Err : goal.returns-in-Err
returns-in-Err g c =
    cut (Unit {0}) (Unit {0}) Failed g.W.Sink.seen c.args.out.now c.put_root.new.out (46 ∷ (114 ∷ []) ++ decimal c.args.number) (below_line c.args.scale c.args.names.now c.args.labels.now c.args.rule.now) ((46 ∷ (114 ∷ []) ++ decimal c.args.number) ++ (below_line c.args.scale c.args.names.now c.args.labels.now c.args.rule.now)) _ refl c.in-Err.ensures
