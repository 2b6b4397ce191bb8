use Rattle.std.proofs.Common.{ap, ℕ, ◌++◌, length}
use Rattle.tib_grammar.specs.Sides.{holes_of}
use Rattle.tib_texts.specs.RuleLines.{arrow_line, below_text}
use Rattle.tib_io.specs.declared.files.Failed.{Failed}
use Rattle.tib_grammar_file.proofs.Printing.{seq, cut}
use Rattle.tib_texts.proofs.derived.put_reader.Goals as goal

pub returns-in-Ok : goal.returns-in-Ok
returns-in-Ok g c =
    seq (Unit {0}) (Unit {0}) Failed g.W.Sink.seen c.args.out.now c.put_below.new.out c.put_arrow.new.out (below_text c.count_states.result) (arrow_line c.args.scale c.args.names.now c.args.labels.now c.args.rule.now) (below_text (length (holes_of c.args.rule.now.right)) ++ arrow_line c.args.scale c.args.names.now c.args.labels.now c.args.rule.now) tt _ (ap (λ (n : ℕ). below_text n ++ arrow_line c.args.scale c.args.names.now c.args.labels.now c.args.rule.now) c.count_states.ensures) c.in-Ok.ensures c.put_arrow.ensures

pub returns-in-Err : goal.returns-in-Err
returns-in-Err g c =
    cut (Unit {0}) (Unit {0}) Failed g.W.Sink.seen c.args.out.now c.put_below.new.out (below_text c.count_states.result) (arrow_line c.args.scale c.args.names.now c.args.labels.now c.args.rule.now) (below_text (length (holes_of c.args.rule.now.right)) ++ arrow_line c.args.scale c.args.names.now c.args.labels.now c.args.rule.now) _ (ap (λ (n : ℕ). below_text n ++ arrow_line c.args.scale c.args.names.now c.args.labels.now c.args.rule.now) c.count_states.ensures) c.in-Err.ensures
