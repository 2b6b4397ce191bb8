use Rattle.std.proofs.Common.{refl}
use Rattle.tib_grammar_file.proofs.Printing.{held_at, not_held}
use Rattle.tib_grammar_file.proofs.symbols.is_held.Goals as goal

pub returns-in-Some : goal.returns-in-Some
returns-in-Some c = held_at c.args.names.now c.in-Some.field-0 c.args.text.now c.in-Some.ensures.found

pub returns-in-None : goal.returns-in-None
returns-in-None c = not_held c.args.names.now c.args.text.now (c.in-None.ensures.none refl)
