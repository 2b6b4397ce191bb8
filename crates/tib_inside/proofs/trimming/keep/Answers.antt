use Rattle.std.proofs.Common.{arith, sym, subst, ap, ◌∙◌, length, get_or, List}
use Rattle.std.specs.Prelude.{Bool, false}
use Rattle.tib_inside.specs.Reaching.{AreReached, both_marked, chosen}
use Rattle.tib_inside.proofs.Assembling.{kept_all}
use Rattle.tib_inside.proofs.trimming.keep.Goals as goal

pub returns-clause-kept : goal.returns-clause-kept
returns-clause-kept g c =
    kept_all g.met.S.Semiring.laws c.args.rules.now c.args.costs.now c.in_ok-live.live.items c.in_ok-kept.kept.items c.in_ok-both.both.items c.in_ok-states.states.items (chosen (λ i. get_or c.in_ok-both.both.items i false) (length c.args.rules.now))
    c.requires.range c.requires.insides c.in_ok-live.ensures (omega (arith, c.in_ok-kept.ensures.long)) (subst (λ (xs : List Bool). AreReached c.args.rules.now xs c.in_ok-kept.kept.items) c.deref.ensures.value c.in_ok-kept.ensures.reached)
    c.in_ok-both.ensures.long
    (λ n h. c.in_ok-both.ensures.both n h ∙ ap (λ (xs : List Bool). both_marked c.args.rules.now xs c.deref-4.result.now n) c.deref-3.ensures.value ∙ ap (λ (ys : List Bool). both_marked c.args.rules.now c.in_ok-live.live.items ys n) c.deref-4.ensures.value)
    (c.in_ok-states.ensures ∙ ap (λ (xs : List Bool). chosen (λ i. get_or xs i false) (length xs)) c.deref-2.ensures.value)
    (ap (chosen (λ i. get_or c.in_ok-both.both.items i false)) (sym c.in_ok-both.ensures.long))
