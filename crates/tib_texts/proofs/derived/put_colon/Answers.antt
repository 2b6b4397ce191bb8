use Rattle.std.proofs.Common.{refl, ◌∷◌, [], ◌++◌}
use Rattle.std.specs.Prelude.{decimal}
use Rattle.tib_io.specs.declared.files.Failed.{Failed}
use Rattle.tib_grammar_file.proofs.Printing.{seq, cut}
use Rattle.tib_texts.proofs.derived.put_colon.Goals as goal

pub returns-in-Ok : goal.returns-in-Ok
returns-in-Ok g c =
    seq (Unit {0}) (Unit {0}) Failed g.W.Sink.seen c.args.out.now c.put_number.new.out c.put.new.out (decimal c.args.variable) (58 ∷ []) ((decimal c.args.variable) ++ (58 ∷ [])) tt _ refl c.in-Ok.ensures c.put.ensures

pub returns-in-Err : goal.returns-in-Err
returns-in-Err g c =
    cut (Unit {0}) (Unit {0}) Failed g.W.Sink.seen c.args.out.now c.put_number.new.out (decimal c.args.variable) (58 ∷ []) ((decimal c.args.variable) ++ (58 ∷ [])) _ refl c.in-Err.ensures
