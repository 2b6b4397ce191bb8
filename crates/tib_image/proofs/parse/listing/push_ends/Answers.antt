use Rattle.std.proofs.Common.{◌<◌, length}
use Rattle.tib_grammar.specs.declared.Item.TheVariants.{Label}
use Rattle.tib_image.specs.ParseListing.{variable_key}
use Rattle.tib_apply.proofs.NumberedSides.{each_item, keys_more}
use Rattle.tib_image.proofs.parse.listing.push_ends.Goals as goal

pub push_end-requires : goal.push_end-requires
push_end-requires c = each_item (λ x. x.number < length c.args.spans.now) c.args.items.now c.loop-item.item-index (Label 0 0) c.loop-item-test.true c.requires

pub loop-item-preserved : goal.loop-item-preserved
loop-item-preserved c =
    keys_more (variable_key c.args.restrictions.now c.args.spans.now) c.args.items.now c.loop-item.item-index c.args.ends.now.items c.loop-item.ends.items c.push_end.new.ends.items c.loop-item-test.true c.loop-item.invariant c.in_ok-push_end.ensures
