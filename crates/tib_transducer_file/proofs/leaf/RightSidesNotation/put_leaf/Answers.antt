use Rattle.std.proofs.Common.{ap, ℕ, List, ◌∷◌, [], ◌++◌, get_or}
use Rattle.tib_io.specs.declared.files.Failed.{Failed}
use Rattle.std.specs.Prelude.{decimal}
use Rattle.tib_grammar_file.proofs.Printing.{seq, cut, text_at}
use Rattle.tib_transducer_file.proofs.leaf.RightSidesNotation.put_leaf.Goals as goal

pub returns-in-Ok : goal.returns-in-Ok
returns-in-Ok g c =
    let rest : List ℕ = 46 ∷ (120 ∷ []) ++ decimal c.args.pair.now.variable in
    seq (Unit {0}) (Unit {0}) Failed g.W.Sink.seen c.args.out.now c.put.new.out c.put_variable.new.out c.text.result.now rest (get_or c.args.names.now c.args.pair.now.state [] ++ rest) tt _ (ap (λ (t : List ℕ). t ++ rest) (text_at c.args.names.now c.args.pair.now.state c.text.result.now c.text.ensures)) c.in-Ok.ensures c.put_variable.ensures

pub returns-in-Err : goal.returns-in-Err
returns-in-Err g c =
    let rest : List ℕ = 46 ∷ (120 ∷ []) ++ decimal c.args.pair.now.variable in
    cut (Unit {0}) (Unit {0}) Failed g.W.Sink.seen c.args.out.now c.put.new.out c.text.result.now rest (get_or c.args.names.now c.args.pair.now.state [] ++ rest) _ (ap (λ (t : List ℕ). t ++ rest) (text_at c.args.names.now c.args.pair.now.state c.text.result.now c.text.ensures)) c.in-Err.ensures
