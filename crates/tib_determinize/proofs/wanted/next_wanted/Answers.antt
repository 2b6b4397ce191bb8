use Rattle.std.proofs.Common.{arith, get_or}
use Rattle.tib_determinize.proofs.PositionsTried.{none_between}
use Rattle.tib_determinize.proofs.wanted.next_wanted.Goals as goal

pub returns-then-at-wanted-clause-between : goal.returns-then-at-wanted-clause-between
returns-then-at-wanted-clause-between c =
    let over = c.if-at-wanted.true in
    none_between c.args.wanted.now c.args.next c.count_below-at.result c.args.end c.requires c.count_below-at.ensures.before (λ l. absurd (omega (arith, l, over)))

pub returns-then-position-end-clause-between : goal.returns-then-position-end-clause-between
returns-then-position-end-clause-between c =
    none_between c.args.wanted.now c.args.next c.count_below-at.result (get_or c.args.wanted.now c.count_below-at.result 0) c.requires c.count_below-at.ensures.before (λ l. omega arith)

pub returns-else-position-end-clause-between : goal.returns-else-position-end-clause-between
returns-else-position-end-clause-between c =
    let over = c.if-position-end.false in
    none_between c.args.wanted.now c.args.next c.count_below-at.result c.args.end c.requires c.count_below-at.ensures.before (λ l. omega (arith, over))
