use Rattle.std.proofs.Common.{arith}
use Rattle.tib_trim.proofs.Numbered.{numbered, seen_yes, seen_no}
use Rattle.tib_trim.proofs.seen.is_seen.Goals as goal

pub returns-then-place-states-clause-no : goal.returns-then-place-states-clause-no
returns-then-place-states-clause-no c = λ e h.
    let n = numbered c.args.states.now c.args.numbers.now c.args.state c.requires.numbers h in
    omega (arith, n.below, c.if-place-states.true)

pub returns-clause-yes : goal.returns-clause-yes
returns-clause-yes c = seen_yes c.args.states.now c.args.numbers.now c.args.state c.if-place-states.false

pub returns-clause-no : goal.returns-clause-no
returns-clause-no c = seen_no c.args.states.now c.args.numbers.now c.args.state c.requires.numbers
