use Rattle.std.proofs.Common.{arith, ℕ, ◌-◌, sym, ◌∙◌, ap, subst}
use Rattle.std.specs.Prelude.{Option, Some}
use Rattle.tib_cost.specs.Least.{times}
use Rattle.tib_weigh.specs.Entries.{IsAscending}
use Rattle.tib_weigh.proofs.Stacks.{slot}
use Rattle.tib_weigh.proofs.Tries.{hole_at_place, hole_beside, none_beside}
use Rattle.tib_weigh.proofs.trying.product_beside.Goals as goal

pub loop-i-preserved-then-i-place : goal.loop-i-preserved-then-i-place
loop-i-preserved-then-i-place g c = record {
  within = omega arith;
  product = hole_at_place g.met.S.Semiring.laws c.args.stack.now c.args.holes.now c.args.place c.loop-i.i c.loop-i.product c.loop-i-test.true c.loop-i.invariant.within c.requires.enough c.if-i-place.true c.loop-i.invariant.product;
}

pub cost_at-requires : goal.cost_at-requires
cost_at-requires g c =
    let s = slot c.args.stack.now c.args.holes.now (c.loop-i.i - 1) c.index-stack-stack.result (omega arith) c.requires.enough c.requires.ascend c.index-stack-stack.is in
    subst IsAscending (sym c.deref.ensures.value) s.ascends

pub returns-in_default : goal.returns-in_default
returns-in_default g c =
    none_beside g.S.Semiring.product c.args.stack.now c.args.holes.now c.args.place c.loop-i.i c.loop-i.invariant.within c.requires.enough
    (hole_beside g.S.Semiring.product c.args.stack.now c.args.holes.now c.args.place c.loop-i.i c.index-stack-stack.result c.cost_at.result c.loop-i.product c.loop-i-test.true c.loop-i.invariant.within c.requires.enough (λ e. absurd (omega (arith, e, c.if-i-place.false))) c.requires.ascend c.index-stack-stack.is
    (rw (c.cost_at.ensures, c.deref.ensures.value, c.state.ensures)) c.loop-i.invariant.product
    ∙ ap (λ (v : Option ℕ). times g.S.Semiring.product v (Some c.loop-i.product)) c.in_default.is)

pub returns-in_default-times : goal.returns-in_default-times
returns-in_default-times g c =
    none_beside g.S.Semiring.product c.args.stack.now c.args.holes.now c.args.place c.loop-i.i c.loop-i.invariant.within c.requires.enough
    (hole_beside g.S.Semiring.product c.args.stack.now c.args.holes.now c.args.place c.loop-i.i c.index-stack-stack.result c.cost_at.result c.loop-i.product c.loop-i-test.true c.loop-i.invariant.within c.requires.enough (λ e. absurd (omega (arith, e, c.if-i-place.false))) c.requires.ascend c.index-stack-stack.is
    (rw (c.cost_at.ensures, c.deref.ensures.value, c.state.ensures)) c.loop-i.invariant.product
    ∙ ap (λ (v : Option ℕ). times g.S.Semiring.product v (Some c.loop-i.product)) c.in-Some.is
    ∙ sym c.times.ensures ∙ c.in_default-times.is)

pub loop-i-preserved : goal.loop-i-preserved
loop-i-preserved g c = record {
  within = omega arith;
  product =
      sym (hole_beside g.S.Semiring.product c.args.stack.now c.args.holes.now c.args.place c.loop-i.i c.index-stack-stack.result c.cost_at.result c.loop-i.product c.loop-i-test.true c.loop-i.invariant.within c.requires.enough (λ e. absurd (omega (arith, e, c.if-i-place.false))) c.requires.ascend c.index-stack-stack.is
      (rw (c.cost_at.ensures, c.deref.ensures.value, c.state.ensures)) c.loop-i.invariant.product
      ∙ ap (λ (v : Option ℕ). times g.S.Semiring.product v (Some c.loop-i.product)) c.in-Some.is
      ∙ sym c.times.ensures ∙ c.in-Some-times.is);
}
