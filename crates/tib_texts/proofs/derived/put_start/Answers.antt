use Rattle.std.proofs.Common.{ap, ℕ, List, ◌∷◌, [], ◌++◌, get_or}
use Rattle.tib_io.specs.declared.files.Failed.{Failed}
use Rattle.tib_grammar_file.proofs.Printing.{seq, cut, text_at}
use Rattle.tib_texts.proofs.derived.put_start.Goals as goal

pub returns-in-Ok : goal.returns-in-Ok
returns-in-Ok g c =
    seq (Unit {0}) (Unit {0}) Failed g.W.Sink.seen c.args.out.now c.put.new.out c.put-in-Ok.new.out (c.text.result.now) (10 ∷ []) (get_or c.args.names.now 0 [] ++ 10 ∷ []) tt _ (ap (λ (t : List ℕ). t ++ 10 ∷ []) (text_at c.args.names.now 0 c.text.result.now c.text.ensures)) c.in-Ok.ensures c.put-in-Ok.ensures

pub returns-in-Err : goal.returns-in-Err
returns-in-Err g c =
    cut (Unit {0}) (Unit {0}) Failed g.W.Sink.seen c.args.out.now c.put.new.out (c.text.result.now) (10 ∷ []) (get_or c.args.names.now 0 [] ++ 10 ∷ []) _ (ap (λ (t : List ℕ). t ++ 10 ∷ []) (text_at c.args.names.now 0 c.text.result.now c.text.ensures)) c.in-Err.ensures
