use Rattle.std.proofs.Common.{refl, ◌∷◌, [], ◌++◌}
use Rattle.tib_texts.specs.RuleLines.{right_line}
use Rattle.tib_io.specs.declared.files.Failed.{Failed}
use Rattle.tib_grammar_file.proofs.Printing.{seq, cut}
use Rattle.tib_texts.proofs.derived.put_arrow.Goals as goal

pub returns-in-Ok : goal.returns-in-Ok
returns-in-Ok g c =
    seq (Unit {0}) (Unit {0}) Failed g.W.Sink.seen c.args.out.now c.put.new.out c.put_right.new.out (32 ∷ (45 ∷ (62 ∷ (32 ∷ [])))) (right_line c.args.scale c.args.names.now c.args.labels.now c.args.rule.now) ((32 ∷ (45 ∷ (62 ∷ (32 ∷ [])))) ++ (right_line c.args.scale c.args.names.now c.args.labels.now c.args.rule.now)) tt _ refl c.in-Ok.ensures c.put_right.ensures

pub returns-in-Err : goal.returns-in-Err
returns-in-Err g c =
    cut (Unit {0}) (Unit {0}) Failed g.W.Sink.seen c.args.out.now c.put.new.out (32 ∷ (45 ∷ (62 ∷ (32 ∷ [])))) (right_line c.args.scale c.args.names.now c.args.labels.now c.args.rule.now) ((32 ∷ (45 ∷ (62 ∷ (32 ∷ [])))) ++ (right_line c.args.scale c.args.names.now c.args.labels.now c.args.rule.now)) _ refl c.in-Err.ensures
