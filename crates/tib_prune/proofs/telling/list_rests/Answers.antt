use Rattle.std.proofs.Common.{arith, ap, sym, ◌∙◌, drop, map, length, ◌-◌}
use Rattle.std.specs.Prelude.{Some}
use Rattle.tib_grammar.specs.Items.{state_in}
use Rattle.tib_inside.specs.Inside.{total}
use Rattle.tib_inside.specs.Settling.{costs_in}
use Rattle.tib_prune.specs.Telling.{rests_of}
use Rattle.tib_prune.proofs.Told.{none_behind, state_below, total_step, rests_step, same_from}
use Rattle.tib_prune.proofs.telling.list_rests.Goals as goal

pub loop-n-init : goal.loop-n-init
loop-n-init g c = record {
  within = omega arith;
  rests = c.clear.ensures.items ∙ ap (rests_of g.S.Semiring.product (costs_in c.args.costs.now)) (sym (none_behind c.args.states.now (length c.args.states.now) (omega arith)));
  rest = ap Some c.one.ensures ∙ ap (total g.S.Semiring.product (costs_in c.args.costs.now)) (sym (none_behind c.args.states.now (length c.args.states.now) (omega arith)));
}

pub bounds-costs-state : goal.bounds-costs-state
bounds-costs-state g c = state_below (length c.args.costs.now) c.args.states.now (c.loop-n.n - 1) c.state.result _ c.requires (omega (arith, c.loop-n.invariant.within, c.loop-n-test.true)) c.state.ensures

pub loop-n-preserved : goal.loop-n-preserved
loop-n-preserved g c = record {
  within = omega (arith, c.loop-n.invariant.within);
  rests = rests_step g.S.Semiring.product c.args.costs.now c.args.states.now c.loop-n.n (c.loop-n.n - 1) c.state.result _ c.index-costs-state.result c.loop-n.rest (omega (arith, c.loop-n-test.true))
      (omega (arith, c.loop-n.invariant.within, c.loop-n-test.true)) c.requires c.state.ensures c.index-costs-state.is c.loop-n.invariant.rest c.loop-n.rests.items _ c.loop-n.invariant.rests c.in_ok-push.ensures.items;
  rest = total_step g.S.Semiring.product c.args.costs.now c.args.states.now c.loop-n.n (c.loop-n.n - 1) c.state.result _ c.index-costs-state.result c.loop-n.rest (omega (arith, c.loop-n-test.true))
      (omega (arith, c.loop-n.invariant.within, c.loop-n-test.true)) c.requires c.state.ensures c.index-costs-state.is c.loop-n.invariant.rest c.times-more.result c.times-more.ensures;
}

pub returns : goal.returns
returns g c = c.loop-n.invariant.rests ∙ ap (λ n. rests_of g.S.Semiring.product (costs_in c.args.costs.now) (drop n (map state_in c.args.states.now))) (same_from c.loop-n.n c.loop-n-test.false)
