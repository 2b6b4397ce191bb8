use Rattle.std.proofs.Common.{ap, ℕ, List, ◌∷◌, [], ◌++◌, get_or}
use Rattle.std.specs.Prelude.{decimal}
use Rattle.tib_io.specs.declared.files.Failed.{Failed}
use Rattle.tib_grammar_file.proofs.Printing.{seq, cut, text_at}
use Rattle.tib_texts.proofs.derived.put_pair.Goals as goal

pub returns-in-Ok : goal.returns-in-Ok
returns-in-Ok g c =
    seq (Unit {0}) (Unit {0}) Failed g.W.Sink.seen c.args.out.now c.put.new.out c.put_number_read.new.out (c.text.result.now) (46 ∷ (120 ∷ []) ++ decimal c.args.variable) (get_or c.args.names.now c.args.state [] ++ (46 ∷ (120 ∷ []) ++ decimal c.args.variable)) tt _ (ap (λ (t : List ℕ). t ++ (46 ∷ (120 ∷ []) ++ decimal c.args.variable)) (text_at c.args.names.now c.args.state c.text.result.now c.text.ensures)) c.in-Ok.ensures c.put_number_read.ensures

pub returns-in-Err : goal.returns-in-Err
returns-in-Err g c =
    cut (Unit {0}) (Unit {0}) Failed g.W.Sink.seen c.args.out.now c.put.new.out (c.text.result.now) (46 ∷ (120 ∷ []) ++ decimal c.args.variable) (get_or c.args.names.now c.args.state [] ++ (46 ∷ (120 ∷ []) ++ decimal c.args.variable)) _ (ap (λ (t : List ℕ). t ++ (46 ∷ (120 ∷ []) ++ decimal c.args.variable)) (text_at c.args.names.now c.args.state c.text.result.now c.text.ensures)) c.in-Err.ensures
