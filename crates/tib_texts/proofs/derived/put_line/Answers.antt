use Rattle.std.proofs.Common.{ap, ℕ, List, [], ◌++◌, get_or}
use Rattle.tib_texts.specs.RuleLines.{root_line}
use Rattle.tib_io.specs.declared.files.Failed.{Failed}
use Rattle.tib_grammar_file.proofs.Printing.{seq, cut, text_at}
use Rattle.tib_texts.proofs.derived.put_line.Goals as goal

pub returns-in-Ok : goal.returns-in-Ok
returns-in-Ok g c =
    seq (Unit {0}) (Unit {0}) Failed g.W.Sink.seen c.args.out.now c.put.new.out c.put_read.new.out (c.text.result.now) (root_line c.args.scale c.args.names.now c.args.labels.now c.args.number c.args.rule.now) (get_or c.args.names.now c.args.rule.now.left [] ++ (root_line c.args.scale c.args.names.now c.args.labels.now c.args.number c.args.rule.now)) tt _ (ap (λ (t : List ℕ). t ++ (root_line c.args.scale c.args.names.now c.args.labels.now c.args.number c.args.rule.now)) (text_at c.args.names.now c.args.rule.now.left c.text.result.now c.text.ensures)) c.in-Ok.ensures c.put_read.ensures

pub returns-in-Err : goal.returns-in-Err
returns-in-Err g c =
    cut (Unit {0}) (Unit {0}) Failed g.W.Sink.seen c.args.out.now c.put.new.out (c.text.result.now) (root_line c.args.scale c.args.names.now c.args.labels.now c.args.number c.args.rule.now) (get_or c.args.names.now c.args.rule.now.left [] ++ (root_line c.args.scale c.args.names.now c.args.labels.now c.args.number c.args.rule.now)) _ (ap (λ (t : List ℕ). t ++ (root_line c.args.scale c.args.names.now c.args.labels.now c.args.number c.args.rule.now)) (text_at c.args.names.now c.args.rule.now.left c.text.result.now c.text.ensures)) c.in-Err.ensures
