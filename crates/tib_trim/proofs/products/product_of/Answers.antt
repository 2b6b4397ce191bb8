use Rattle.std.proofs.Common.{arith, ap, sym, ◌∙◌, drop, length, ◌-◌, get_or, refl}
use Rattle.std.specs.Prelude.{Some}
use Rattle.std.proofs.lemmas.List.{drop_all}
use Rattle.tib_grammar.specs.Items.{holes_in}
use Rattle.tib_grammar.specs.declared.Item.TheVariants.{Label}
use Rattle.tib_inside.specs.Inside.{total}
use Rattle.tib_inside.specs.Settling.{costs_in}
use Rattle.tib_inside.proofs.Totals.{items_below, below_from}
use Rattle.tib_trim.proofs.ToldItems.{total_from}
use Rattle.tib_trim.proofs.products.product_of.Goals as goal

pub loop-n-init : goal.loop-n-init
loop-n-init g c = record {
  within = omega arith;
  product = ap Some c.one.ensures ∙ ap (λ xs. total g.S.Semiring.product (costs_in c.args.costs.now) (holes_in xs)) (sym (drop_all (length c.args.items.now) c.args.items.now (omega arith)));
}

pub times_item-product-requires : goal.times_item-product-requires
times_item-product-requires g c =
    items_below (length c.args.costs.now) c.args.items.now (c.loop-n.n - 1) (get_or c.args.items.now (c.loop-n.n - 1) (Label 0 0)) (omega (arith, c.loop-n.invariant.within, c.loop-n-test.true)) refl
    (below_from (length c.args.costs.now) c.args.items.now (c.loop-n.n - 1) c.requires)

pub loop-n-preserved : goal.loop-n-preserved
loop-n-preserved g c = record {
  within = omega (arith, c.loop-n.invariant.within);
  product = c.times_item-product.ensures (holes_in (drop c.loop-n.n c.args.items.now)) c.loop-n.invariant.product
      ∙ ap (total g.S.Semiring.product (costs_in c.args.costs.now)) (total_from c.args.items.now c.loop-n.n (c.loop-n.n - 1) (omega (arith, c.loop-n-test.true)) (omega (arith, c.loop-n.invariant.within, c.loop-n-test.true)));
}
