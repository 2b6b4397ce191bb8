use Rattle.std.proofs.Common.{refl, ℕ, List, ◌∷◌, [], ◌++◌}
use Rattle.tib_io.specs.declared.files.Failed.{Failed}
use Rattle.std.specs.Prelude.{decimal}
use Rattle.tib_grammar_file.proofs.Printing.{seq, cut}
use Rattle.tib_transducer_file.specs.Printed.{asked_text}
use Rattle.tib_transducer_file.proofs.leaf.LeftSidesNotation.put_leaf.Goals as goal

pub returns-in-Ok : goal.returns-in-Ok
returns-in-Ok g c =
    let rest : List ℕ = decimal c.args.variable.now.number ++ (58 ∷ [] ++ asked_text c.args.labels.now c.args.variable.now.label) in
    seq (Unit {0}) (Unit {0}) Failed g.W.Sink.seen c.args.out.now c.put.new.out c.put_numbered.new.out (120 ∷ []) rest (120 ∷ [] ++ rest) tt _ refl c.in-Ok.ensures c.put_numbered.ensures

pub returns-in-Err : goal.returns-in-Err
returns-in-Err g c =
    let rest : List ℕ = decimal c.args.variable.now.number ++ (58 ∷ [] ++ asked_text c.args.labels.now c.args.variable.now.label) in
    cut (Unit {0}) (Unit {0}) Failed g.W.Sink.seen c.args.out.now c.put.new.out (120 ∷ []) rest (120 ∷ [] ++ rest) _ refl c.in-Err.ensures
