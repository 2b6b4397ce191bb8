use Rattle.std.proofs.Common.{arith, map}
use Rattle.tib_grammar.specs.Items.{state_in}
use Rattle.tib_difference.specs.Tries.{choices_at}
use Rattle.tib_difference.proofs.Choosing.{next_choice}
use Rattle.tib_difference.proofs.choices.is_stuck.Goals as goal

pub returns-clause-no : goal.returns-clause-no
returns-clause-no c = λ e s. c.loop-place.invariant s.place (let low = s.below in let done = c.loop-place-test.false in omega (arith, low, done)) s.none

pub loop-place-preserved : goal.loop-place-preserved
loop-place-preserved c =
    let w = c.args.walk.now in
    next_choice (choices_at (map state_in c.args.states.now) w.order.now w.position w.place) c.loop-place.place c.loop-place.invariant (c.has_choice.ensures.yes c.if-not-has_choice.false)
