use Rattle.std.proofs.Common.{refl, ◌∷◌, [], ◌++◌}
use Rattle.std.specs.Prelude.{decimal}
use Rattle.tib_grammar_file.specs.TreeText.{space}
use Rattle.tib_io.specs.declared.files.Failed.{Failed}
use Rattle.tib_grammar_file.proofs.Printing.{seq, cut}
use Rattle.tib_texts.proofs.derived.put_variable.Goals as goal

pub returns-in-Ok : goal.returns-in-Ok
returns-in-Ok g c =
    seq (Unit {0}) (Unit {0}) Failed g.W.Sink.seen c.args.out.now c.put_x.new.out c.put_colon.new.out (space c.args.k ++ 120 ∷ []) (decimal c.args.k ++ 58 ∷ []) ((space c.args.k ++ 120 ∷ []) ++ (decimal c.args.k ++ 58 ∷ [])) tt _ refl c.in-Ok.ensures c.put_colon.ensures

pub returns-in-Err : goal.returns-in-Err
returns-in-Err g c =
    cut (Unit {0}) (Unit {0}) Failed g.W.Sink.seen c.args.out.now c.put_x.new.out (space c.args.k ++ 120 ∷ []) (decimal c.args.k ++ 58 ∷ []) ((space c.args.k ++ 120 ∷ []) ++ (decimal c.args.k ++ 58 ∷ [])) _ refl c.in-Err.ensures
