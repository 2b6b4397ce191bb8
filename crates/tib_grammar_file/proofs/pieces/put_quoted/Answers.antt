use Rattle.std.proofs.Common.{refl, ◌∷◌, [], ◌++◌}
use Rattle.tib_io.specs.declared.files.Failed.{Failed}
use Rattle.tib_grammar_file.proofs.Printing.{seq, cut}
use Rattle.tib_lex.specs.Grammar.{escape}
use Rattle.tib_grammar_file.proofs.pieces.put_quoted.Goals as goal

pub returns-in-Ok : goal.returns-in-Ok
returns-in-Ok g c = seq (Unit {0}) (Unit {0}) Failed g.W.Sink.seen c.args.out.now c.put.new.out c.close_quote.new.out (34 ∷ []) (escape c.args.text.now ++ 34 ∷ []) (34 ∷ (escape c.args.text.now ++ 34 ∷ [])) tt _ refl c.in-Ok.ensures c.close_quote.ensures

pub returns-in-Err : goal.returns-in-Err
returns-in-Err g c = cut (Unit {0}) (Unit {0}) Failed g.W.Sink.seen c.args.out.now c.put.new.out (34 ∷ []) (escape c.args.text.now ++ 34 ∷ []) (34 ∷ (escape c.args.text.now ++ 34 ∷ [])) _ refl c.in-Err.ensures
