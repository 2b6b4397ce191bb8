use Rattle.std.proofs.Common.{sym, ◌∙◌}
use Rattle.tib_lex.proofs.Names.{name_is, is_named}
use Rattle.tib_lex.proofs.bytes.is_name.Goals as goal

pub returns-clause-yes : goal.returns-clause-yes
returns-clause-yes c = λ e. name_is c.args.text.now (sym c.is_full_name.ensures ∙ e)

pub returns-clause-no : goal.returns-clause-no
returns-clause-no c = λ w. c.is_full_name.ensures ∙ is_named c.args.text.now w
