use Rattle.std.proofs.Common.{arith}
use Rattle.tib_match.proofs.NarrowedLists.{between, nowhere}
use Rattle.tib_match.proofs.narrowing.narrow.Goals as goal

pub returns-then-from-to-clause-whole : goal.returns-then-from-to-clause-whole
returns-then-from-to-clause-whole c product p others waits =
    nowhere c.args.rules.now c.args.positions.now c.args.state c.count_below-from.result c.count_below-to.result c.count_below-from.ensures.before c.count_below-to.ensures.behind product p others waits
    c.if-from-to.true c.count_below-from.ensures.within

pub returns-clause-whole : goal.returns-clause-whole
returns-clause-whole c product p others waits =
    between c.args.rules.now c.args.positions.now c.args.state c.count_below-from.result c.count_below-to.result c.count_below-from.ensures.before c.count_below-to.ensures.behind product p others waits
    (let less = c.if-from-to.false in omega arith)
