use Rattle.std.proofs.Common.{arith, ap, sym, ◌∙◌, drop, map, length, ◌-◌}
use Rattle.std.specs.Prelude.{Some}
use Rattle.tib_grammar.specs.Items.{state_in}
use Rattle.tib_inside.specs.Inside.{total}
use Rattle.tib_inside.specs.Settling.{costs_in}
use Rattle.tib_prune.proofs.Told.{none_behind, state_below, total_step, same_from}
use Rattle.tib_prune.proofs.products.product_of.Goals as goal

pub loop-n-init : goal.loop-n-init
loop-n-init g c = record {
  within = omega arith;
  product = ap Some c.one.ensures ∙ ap (total g.S.Semiring.product (costs_in c.args.costs.now)) (sym (none_behind c.args.states.now (length c.args.states.now) (omega arith)));
}

pub bounds-costs-state : goal.bounds-costs-state
bounds-costs-state g c = state_below (length c.args.costs.now) c.args.states.now (c.loop-n.n - 1) c.state.result _ c.requires (omega (arith, c.loop-n.invariant.within, c.loop-n-test.true)) c.state.ensures

pub loop-n-preserved : goal.loop-n-preserved
loop-n-preserved g c = record {
  within = omega (arith, c.loop-n.invariant.within);
  product = total_step g.S.Semiring.product c.args.costs.now c.args.states.now c.loop-n.n (c.loop-n.n - 1) c.state.result _ c.index-costs-state.result c.loop-n.product (omega (arith, c.loop-n-test.true))
      (omega (arith, c.loop-n.invariant.within, c.loop-n-test.true)) c.requires c.state.ensures c.index-costs-state.is c.loop-n.invariant.product c.times-product.result c.times-product.ensures;
}

pub returns : goal.returns
returns g c = c.loop-n.invariant.product ∙ ap (λ n. total g.S.Semiring.product (costs_in c.args.costs.now) (drop n (map state_in c.args.states.now))) (same_from c.loop-n.n c.loop-n-test.false)
