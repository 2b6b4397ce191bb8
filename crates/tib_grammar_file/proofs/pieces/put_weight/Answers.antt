use Rattle.std.proofs.Common.{refl, ap, ℕ, ◌∷◌, []}
use Rattle.tib_io.specs.declared.files.Failed.{Failed}
use Rattle.tib_grammar_file.proofs.Printing.{seq, cut}
use Rattle.std.specs.Prelude.{decimal}
use Rattle.tib_grammar_file.proofs.pieces.put_weight.Goals as goal

pub returns-in-Ok : goal.returns-in-Ok
returns-in-Ok g c = seq (Unit {0}) (Unit {0}) Failed g.W.Sink.seen c.args.out.now c.put.new.out c.put_number.new.out (32 ∷ (35 ∷ (32 ∷ []))) (decimal c.get.result) (32 ∷ (35 ∷ (32 ∷ decimal c.args.cost))) tt _ (ap (λ (n : ℕ). 32 ∷ (35 ∷ (32 ∷ decimal n))) c.get.ensures.same) c.in-Ok.ensures c.put_number.ensures

pub returns-in-Err : goal.returns-in-Err
returns-in-Err g c = cut (Unit {0}) (Unit {0}) Failed g.W.Sink.seen c.args.out.now c.put.new.out (32 ∷ (35 ∷ (32 ∷ []))) (decimal c.args.cost) (32 ∷ (35 ∷ (32 ∷ decimal c.args.cost))) _ refl c.in-Err.ensures
