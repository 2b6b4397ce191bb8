use Rattle.std.proofs.Common.{arith, refl, sym, ap, ◌∙◌, length, get_or}
use Rattle.std.specs.Prelude.{Some}
use Rattle.tib_cost.specs.Least.{times}
use Rattle.tib_grammar.specs.declared.Item.TheVariants.{Label}
use Rattle.tib_grammar.specs.Items.{holes_in}
use Rattle.tib_inside.specs.Inside.{total}
use Rattle.tib_inside.specs.Settling.{costs_in}
use Rattle.tib_inside.proofs.Totals.{items_begin, items_step, items_none, items_end, items_below, below_from}
use Rattle.tib_inside.proofs.rule_costs.times_items.Goals as goal

pub loop-item-init : goal.loop-item-init
loop-item-init g c = record {
  product = ap (λ n. times g.S.Semiring.product (Some n) (total g.S.Semiring.product (costs_in c.args.costs.now) (holes_in c.args.items.now))) c.one-cost.ensures
      ∙ items_begin g.met.S.Semiring.laws (costs_in c.args.costs.now) (holes_in c.args.items.now);
  within = omega (arith, c.one-cost.ensures);
}

pub times_item-requires-clause-below : goal.times_item-requires-clause-below
times_item-requires-clause-below g c =
    items_below (length c.args.costs.now) c.args.items.now c.loop-item.item-index (get_or c.args.items.now c.loop-item.item-index (Label 0 0)) (omega arith) refl (below_from (length c.args.costs.now) c.args.items.now c.loop-item.item-index c.requires)

pub returns-in_default : goal.returns-in_default
returns-in_default g c =
    items_none g.met.S.Semiring.laws (costs_in c.args.costs.now) c.args.items.now c.loop-item.item-index (get_or c.args.items.now c.loop-item.item-index (Label 0 0)) (Some c.loop-item.cost) (total g.S.Semiring.product (costs_in c.args.costs.now) (holes_in c.args.items.now))
    (omega arith) refl (sym c.in_default.is ∙ c.times_item.ensures.product) c.loop-item.invariant.product

pub loop-item-preserved : goal.loop-item-preserved
loop-item-preserved g c = record {
  product = items_step g.met.S.Semiring.laws (costs_in c.args.costs.now) c.args.items.now c.loop-item.item-index (get_or c.args.items.now c.loop-item.item-index (Label 0 0)) (Some c.loop-item.cost) (Some c.in-Some.more)
      (total g.S.Semiring.product (costs_in c.args.costs.now) (holes_in c.args.items.now)) (omega arith) refl (sym c.in-Some.is ∙ c.times_item.ensures.product) c.loop-item.invariant.product;
  within = c.in-Some.ensures.within;
}

pub returns : goal.returns
returns g c =
    items_end g.met.S.Semiring.laws (costs_in c.args.costs.now) c.loop-item.cost c.args.items.now c.loop-item.item-index (total g.S.Semiring.product (costs_in c.args.costs.now) (holes_in c.args.items.now)) (omega arith) c.loop-item.invariant.within c.loop-item.invariant.product
