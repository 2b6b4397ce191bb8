use Rattle.tib_strings.proofs.FaultLemmas.{linear_from, nondeleting_from, among_from}
use Rattle.tib_strings.proofs.classes.fault_of.Goals as goal

pub returns-then-not-all_stand-clause-some : goal.returns-then-not-all_stand-clause-some
returns-then-not-all_stand-clause-some c = (
  linear_from c.items-left.result.now c.tokens-right.result.now c.args.rule.now c.items-left.ensures.items c.tokens-right.ensures (c.are_apart.ensures.yes c.if-not-are_apart.false),
  λ n. c.all_stand.ensures.no c.if-not-all_stand.true (among_from c.items-left.result.now c.tokens-right.result.now c.args.rule.now c.items-left.ensures.items c.tokens-right.ensures n),
)

pub returns-clause-nondeleting : goal.returns-clause-nondeleting
returns-clause-nondeleting c = λ _.
    nondeleting_from c.items-left.result.now c.tokens-right.result.now c.args.rule.now c.items-left.ensures.items c.tokens-right.ensures (c.all_stand.ensures.yes c.if-not-all_stand.false)
