use Rattle.std.proofs.Common.{subst, sym}
use Rattle.tib_grammar.specs.Range.{AllBelow}
use Rattle.tib_grammar.proofs.Holes.{holes_of_items}
use Rattle.tib_grammar.proofs.grammars.is_in_range.Goals as goal

pub returns-then-rule-n-clause-yes : goal.returns-then-rule-n-clause-yes
returns-then-rule-n-clause-yes c = λ t. (
  c.if-rule-n.true,
  subst (AllBelow c.args.n) (sym (holes_of_items c.items-items.result.now c.args.rule.now.right c.items-items.ensures.items)) (c.are_below.ensures.yes t),
)

pub returns-then-rule-n-clause-no : goal.returns-then-rule-n-clause-no
returns-then-rule-n-clause-no c = λ f h.
    c.are_below.ensures.no f (subst (AllBelow c.args.n) (holes_of_items c.items-items.result.now c.args.rule.now.right c.items-items.ensures.items) h.1)
