use Rattle.std.proofs.Common.{refl, ◌∷◌, [], ◌++◌}
use Rattle.tib_io.specs.declared.files.Failed.{Failed}
use Rattle.tib_grammar_file.proofs.Printing.{seq, cut}
use Rattle.tib_transducer_file.specs.Printed.{asked_text}
use Rattle.tib_transducer_file.proofs.leaf.put_colon.Goals as goal

pub returns-in-Ok : goal.returns-in-Ok
returns-in-Ok g c = seq (Unit {0}) (Unit {0}) Failed g.W.Sink.seen c.args.out.now c.put.new.out c.put_asked.new.out ((58 ∷ [])) (asked_text c.args.labels.now c.args.asked) ((58 ∷ []) ++ (asked_text c.args.labels.now c.args.asked)) tt _ refl c.in-Ok.ensures c.put_asked.ensures

pub returns-in-Err : goal.returns-in-Err
returns-in-Err g c = cut (Unit {0}) (Unit {0}) Failed g.W.Sink.seen c.args.out.now c.put.new.out ((58 ∷ [])) (asked_text c.args.labels.now c.args.asked) ((58 ∷ []) ++ (asked_text c.args.labels.now c.args.asked)) _ refl c.in-Err.ensures
