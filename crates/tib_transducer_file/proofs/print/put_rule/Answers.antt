use Rattle.std.proofs.Common.{ap, ℕ, List, ◌∷◌, [], ◌++◌, get_or}
use Rattle.tib_io.specs.declared.files.Failed.{Failed}
use Rattle.tib_grammar_file.proofs.Printing.{seq, cut, text_at}
use Rattle.tib_transducer_file.specs.Printed.{left_text}
use Rattle.tib_transducer_file.proofs.print.put_rule.Goals as goal

pub returns-in-Ok : goal.returns-in-Ok
returns-in-Ok g c = seq (Unit {0}) (Unit {0}) Failed g.W.Sink.seen c.args.out.now c.put.new.out c.put_stop.new.out c.text.result.now (46 ∷ [] ++ left_text c.args.scale c.args.names.now c.args.labels.now c.args.rule.now) ((get_or c.args.names.now c.args.rule.now.state []) ++ (46 ∷ [] ++ left_text c.args.scale c.args.names.now c.args.labels.now c.args.rule.now)) tt _ (ap (λ (t : List ℕ). t ++ (46 ∷ [] ++ left_text c.args.scale c.args.names.now c.args.labels.now c.args.rule.now)) (text_at c.args.names.now c.args.rule.now.state c.text.result.now c.text.ensures)) c.in-Ok.ensures c.put_stop.ensures

pub returns-in-Err : goal.returns-in-Err
returns-in-Err g c = cut (Unit {0}) (Unit {0}) Failed g.W.Sink.seen c.args.out.now c.put.new.out c.text.result.now (46 ∷ [] ++ left_text c.args.scale c.args.names.now c.args.labels.now c.args.rule.now) ((get_or c.args.names.now c.args.rule.now.state []) ++ (46 ∷ [] ++ left_text c.args.scale c.args.names.now c.args.labels.now c.args.rule.now)) _ (ap (λ (t : List ℕ). t ++ (46 ∷ [] ++ left_text c.args.scale c.args.names.now c.args.labels.now c.args.rule.now)) (text_at c.args.names.now c.args.rule.now.state c.text.result.now c.text.ensures)) c.in-Err.ensures
