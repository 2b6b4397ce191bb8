use Rattle.std.proofs.Common.{refl, ◌∷◌, [], ◌++◌}
use Rattle.tib_io.specs.declared.files.Failed.{Failed}
use Rattle.tib_grammar_file.proofs.Printing.{seq, cut}
use Rattle.tib_grammar_file.specs.Printed.{cost_text}
use Rattle.tib_grammar_file.proofs.pieces.put_end.Goals as goal

pub returns-in-Ok : goal.returns-in-Ok
returns-in-Ok g c = seq (Unit {0}) (Unit {0}) Failed g.W.Sink.seen c.args.out.now c.put_cost.new.out c.put.new.out (cost_text c.args.scale c.args.cost) (10 ∷ []) (cost_text c.args.scale c.args.cost ++ 10 ∷ []) tt _ refl c.in-Ok.ensures c.put.ensures

pub returns-in-Err : goal.returns-in-Err
returns-in-Err g c = cut (Unit {0}) (Unit {0}) Failed g.W.Sink.seen c.args.out.now c.put_cost.new.out (cost_text c.args.scale c.args.cost) (10 ∷ []) (cost_text c.args.scale c.args.cost ++ 10 ∷ []) _ refl c.in-Err.ensures
