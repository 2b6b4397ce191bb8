use Rattle.std.proofs.Common.{arith, ℕ, subst, ◌≡◌, ◌-◌, suc, refl, get_or, ap, ◌++◌, ◌∙◌, reverse}
use Rattle.std.proofs.lemmas.List.{length-reverse}
use Rattle.tib_grammar.specs.declared.Item.{Item}
use Rattle.tib_grammar.specs.declared.Item.TheVariants.{Label}
use Rattle.tib_normal.specs.Places.{rules_with}
use Rattle.tib_normal.proofs.Placing.{IsPlacing, placing-fits, placing-more}
use Rattle.tib_normal.proofs.sides.place.Goals as goal

pub place_item-requires-clause-own : goal.place_item-requires-clause-own
place_item-requires-clause-own c =
    let one : c.loop-i.i ≡ suc (c.loop-i.i - 1) = omega (arith, c.loop-i-test.true) in
    (placing-fits c.args.items.now c.args.state (c.loop-i.i - 1) c.loop-i.first c.loop-i.stack.items c.args.inner.now.items c.loop-i.inner.items (get_or c.args.items.now (c.loop-i.i - 1) (Label 0 0)) (omega arith) (omega (arith, c.loop-i.invariant.within)) refl c.requires.nested c.requires.own
    (subst (λ j. IsPlacing c.args.items.now c.args.state j c.loop-i.first c.loop-i.stack.items c.args.inner.now.items c.loop-i.inner.items) one c.loop-i.invariant.placing)).0

pub place_item-requires-clause-rank : goal.place_item-requires-clause-rank
place_item-requires-clause-rank c =
    let one : c.loop-i.i ≡ suc (c.loop-i.i - 1) = omega (arith, c.loop-i-test.true) in
    let fits = (placing-fits c.args.items.now c.args.state (c.loop-i.i - 1) c.loop-i.first c.loop-i.stack.items c.args.inner.now.items c.loop-i.inner.items (get_or c.args.items.now (c.loop-i.i - 1) (Label 0 0)) (omega arith) (omega (arith, c.loop-i.invariant.within)) refl c.requires.nested c.requires.own
    (subst (λ j. IsPlacing c.args.items.now c.args.state j c.loop-i.first c.loop-i.stack.items c.args.inner.now.items c.loop-i.inner.items) one c.loop-i.invariant.placing)).1 in
    omega (arith, fits, length-reverse c.loop-i.stack.items)

pub loop-i-preserved : goal.loop-i-preserved
loop-i-preserved c =
    let one : c.loop-i.i ≡ suc (c.loop-i.i - 1) = omega (arith, c.loop-i-test.true) in
    let x : Item ℕ = get_or c.args.items.now (c.loop-i.i - 1) (Label 0 0) in
    record {
      low = omega (arith, c.loop-i-test.true);
      within = omega (arith, c.loop-i.invariant.within);
      placing = placing-more c.args.items.now c.args.state (c.loop-i.i - 1) c.loop-i.first c.in_ok-first.first c.loop-i.stack.items c.place_item.new.stack.items c.args.inner.now.items c.loop-i.inner.items c.place_item.new.inner.items x
          (omega (arith, c.loop-i-test.true)) (omega (arith, c.loop-i.invariant.within, c.loop-i-test.true)) refl c.requires.nested
          (subst (λ j. IsPlacing c.args.items.now c.args.state j c.loop-i.first c.loop-i.stack.items c.args.inner.now.items c.loop-i.inner.items) one c.loop-i.invariant.placing)
          c.in_ok-first.ensures.state c.in_ok-first.ensures.states
          (c.in_ok-first.ensures.rules ∙ ap (λ (z : ℕ). c.loop-i.inner.items ++ rules_with x c.in_ok-first.first (reverse c.loop-i.stack.items) z) c.requires.zero);
    }
