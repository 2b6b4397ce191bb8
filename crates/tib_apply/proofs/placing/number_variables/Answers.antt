use Rattle.std.proofs.Common.{◌<◌, arith}
use Rattle.tib_apply.specs.BackwardLists.{number_from}
use Rattle.tib_key_edges.proofs.MappedSides.{items_size}
use Rattle.tib_apply.proofs.NumberedSides.{each_of_side, with_more, side_with, side_there, items_few}
use Rattle.tib_apply.proofs.placing.number_variables.Goals as goal

pub numbered_item-requires : goal.numbered_item-requires
numbered_item-requires c = each_of_side (λ x. number_from c.args.first x < 4294967296) c.args.side.now c.items-items.result.now c.loop-item.item-index c.items-items.ensures.items c.loop-item-test.true c.requires.numbers

pub loop-item-preserved : goal.loop-item-preserved
loop-item-preserved c =
    with_more (number_from c.args.first) c.items-items.result.now c.loop-item.item-index c.numbered_item.result c.loop-item.numbered.items c.push.new.self.items c.loop-item-test.true c.loop-item.invariant c.numbered_item.ensures
    c.in_ok-push.ensures.items

pub side_of-requires-clause-few : goal.side_of-requires-clause-few
side_of-requires-clause-few c =
    items_few (number_from c.args.first) c.items-items.result.now c.loop-item.item-index c.loop-item.numbered.items c.loop-item-test.false c.loop-item.invariant
    (omega (arith, items_size c.items-items.result.now c.args.side.now c.items-items.ensures.items, c.requires.few))

pub side_of-requires-clause-there : goal.side_of-requires-clause-there
side_of-requires-clause-there c =
    side_there (number_from c.args.first) c.args.side.now c.items-items.result.now c.loop-item.item-index c.loop-item.numbered.items c.items-items.ensures.items c.loop-item-test.false c.loop-item.invariant

pub returns : goal.returns
returns c =
    side_with (number_from c.args.first) c.args.side.now c.items-items.result.now c.loop-item.item-index c.loop-item.numbered.items c.side_of.result c.items-items.ensures.items c.loop-item-test.false c.loop-item.invariant
    c.side_of.ensures
