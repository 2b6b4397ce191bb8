use Rattle.std.proofs.Common.{arith, subst, ◌<◌}
use Rattle.tib_lex.proofs.Members.{at_has}
use Rattle.tib_list_tests.proofs.shared_trees.are_below.Goals as goal

pub returns : goal.returns
returns c = λ _ m h.
    let at = at_has c.args.numbers.now m 0 h in
    subst (λ n. n < c.args.count) at.2 (c.loop-i.invariant.1 at.0 (omega (arith, at.1, c.loop-i-test.false)))
