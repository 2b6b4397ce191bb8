use Rattle.std.proofs.Common.{get_or}
use Rattle.std.proofs.Common.{refl}
use Rattle.tib_grammar.specs.declared.Item.TheVariants.{Label}
use Rattle.tib_compose.proofs.FlatEdges.{put_none, put_more, put_all}
use Rattle.tib_compose.proofs.flat.put_right.Goals as goal

pub loop-item-init : goal.loop-item-init
loop-item-init c = put_none c.args.items.now c.args.right.now c.clear.new.self.items c.clear.ensures.items

pub put_below-requires-clause-known : goal.put_below-requires-clause-known
put_below-requires-clause-known c = (c.requires.known.0, c.requires.known.1, c.requires.known.2 c.loop-item.item-index c.loop-item-test.true)

pub loop-item-preserved : goal.loop-item-preserved
loop-item-preserved c =
    put_more c.args.items.now c.args.right.now c.loop-item.item-index (get_or c.args.right.now c.loop-item.item-index (Label 0 0)) c.loop-item.done.items c.put_below.new.done.items c.loop-item-test.true refl
    c.in_ok-put_below.ensures c.loop-item.invariant

pub returns : goal.returns
returns c = put_all c.args.items.now c.args.right.now c.loop-item.item-index c.loop-item.done.items c.loop-item-test.false c.loop-item.invariant
