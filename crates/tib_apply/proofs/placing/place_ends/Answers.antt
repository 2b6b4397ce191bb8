use Rattle.std.proofs.Common.{◌<◌, arith, length, slice_index}
use Rattle.tib_apply.proofs.NumberedSides.{each_of_side, with_more, side_with, side_there, items_few}
use Rattle.tib_apply.proofs.placing.place_ends.Goals as goal

pub placed_item-requires : goal.placed_item-requires
placed_item-requires c = each_of_side (λ i. i < length c.args.ends.now) c.args.side.now c.items-items.result.now c.loop-item.item-index c.items-items.ensures.items c.loop-item-test.true c.requires

pub loop-item-preserved : goal.loop-item-preserved
loop-item-preserved c =
    with_more (slice_index c.args.ends.now) c.items-items.result.now c.loop-item.item-index c.placed_item.result c.loop-item.placed.items c.push.new.self.items c.loop-item-test.true c.loop-item.invariant c.placed_item.ensures
    c.in_ok-push.ensures.items

pub side_of-requires-clause-few : goal.side_of-requires-clause-few
side_of-requires-clause-few c =
    items_few (slice_index c.args.ends.now) c.items-items.result.now c.loop-item.item-index c.loop-item.placed.items c.loop-item-test.false c.loop-item.invariant
    (omega (arith, c.if-items-gt4000000000.false))

pub side_of-requires-clause-there : goal.side_of-requires-clause-there
side_of-requires-clause-there c =
    side_there (slice_index c.args.ends.now) c.args.side.now c.items-items.result.now c.loop-item.item-index c.loop-item.placed.items c.items-items.ensures.items c.loop-item-test.false c.loop-item.invariant

pub returns : goal.returns
returns c =
    side_with (slice_index c.args.ends.now) c.args.side.now c.items-items.result.now c.loop-item.item-index c.loop-item.placed.items c.side_of.result c.items-items.ensures.items c.loop-item-test.false c.loop-item.invariant
    c.side_of.ensures
