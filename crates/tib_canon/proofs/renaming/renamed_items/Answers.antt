use Rattle.std.proofs.Common.{length}
use Rattle.tib_grammar.specs.declared.Item.TheVariants.{Label}
use Rattle.tib_canon.proofs.Renamed.{item_below}
use Rattle.tib_canon.proofs.renaming.renamed_items.Goals as goal

pub renamed_item-requires : goal.renamed_item-requires
renamed_item-requires c = item_below (length c.args.numbers.now) c.args.items.now c.loop-item.item-index (Label 0 0) c.loop-item-test.true c.requires
