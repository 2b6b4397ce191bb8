use Rattle.std.proofs.Common.{◌<◌, length}
use Rattle.tib_grammar.specs.declared.Item.TheVariants.{Label}
use Rattle.tib_rulewise.proofs.Items.{each_item}
use Rattle.tib_rulewise.proofs.from_transducer.paired_items.Goals as goal

pub paired_item-requires : goal.paired_item-requires
paired_item-requires c = each_item (λ x. x.number < length c.args.listed.now) c.args.items.now c.loop-item.item-index (Label 0 0) c.loop-item-test.true c.requires
