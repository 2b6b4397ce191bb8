use Rattle.std.proofs.Common.{arith, ◌∙◌, sym, subst}
use Rattle.tib_lex.specs.Lines.{HasNoFeed}
use Rattle.tib_rulewise.proofs.RuleTexts.{plain_text}
use Rattle.tib_rulewise.proofs.labels.label_of_rule.Goals as goal

pub intern-requires-clause-plain : goal.intern-requires-clause-plain
intern-requires-clause-plain c = subst HasNoFeed (sym (c.deref.ensures.value ∙ c.in_ok-put_rule_text.ensures)) (plain_text c.args.number (omega (arith, c.ranges.number.fits)))
