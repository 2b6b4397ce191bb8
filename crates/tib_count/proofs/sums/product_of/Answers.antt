use Rattle.std.proofs.Common.{ap, ◌∙◌, take, length}
use Rattle.tib_grammar.specs.Items.{holes_in}
use Rattle.tib_grammar.specs.declared.Item.TheVariants.{Label}
use Rattle.tib_count.specs.Counts.{counted}
use Rattle.tib_count.specs.Products.{product_over}
use Rattle.tib_count.proofs.Summing.{product_item, item_below, item_has}
use Rattle.tib_count.proofs.sums.product_of.Goals as goal

pub with_item-product-requires : goal.with_item-product-requires
with_item-product-requires c = record { below = item_below (length c.args.totals.now) c.args.items.now c.loop-item.item-index (Label 0 0) c.loop-item-test.true c.requires.below }

pub loop-item-preserved : goal.loop-item-preserved
loop-item-preserved c = λ number each.
    c.with_item-product.ensures (product_over number (holes_in (take c.loop-item.item-index c.args.items.now))) number (c.loop-item.invariant number each)
    (λ q h. each q (item_has c.args.items.now c.loop-item.item-index (Label 0 0) q c.loop-item-test.true h))
    ∙ ap counted (product_item number c.args.items.now c.loop-item.item-index (Label 0 0) c.loop-item-test.true)
