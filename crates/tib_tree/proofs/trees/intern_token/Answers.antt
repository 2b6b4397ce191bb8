use Rattle.std.proofs.Common.{sym, ◌∙◌, subst}
use Rattle.tib_lex.specs.Lines.{HasNoFeed}
use Rattle.tib_lex.proofs.NoFeeds.{text_plain}
use Rattle.tib_tree.proofs.trees.intern_token.Goals as goal

pub intern-requires-clause-plain : goal.intern-requires-clause-plain
intern-requires-clause-plain c = subst HasNoFeed (sym c.in-Some.ensures) (text_plain c.args.line.now c.args.token c.requires.plain)

pub intern-requires-2-clause-plain : goal.intern-requires-2-clause-plain
intern-requires-2-clause-plain c = subst HasNoFeed (sym (c.deref.ensures.value ∙ c.in_ok-read_text.ensures)) (text_plain c.args.line.now c.args.token c.requires.plain)
