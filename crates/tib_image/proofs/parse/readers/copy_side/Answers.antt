use Rattle.std.proofs.Common.{◌∙◌, ap, sym}
use Rattle.std.proofs.lemmas.List.{take_all}
use Rattle.tib_grammar.specs.Items.{pairs_of}
use Rattle.tib_image.proofs.Copying.{no_fault}
use Rattle.tib_image.proofs.parse.readers.copy_side.Goals as goal
use Rattle.tib_grammar.proofs.Sides.{side_same}

pub returns : goal.returns
returns c =
    side_same c.in-Ok.copy c.args.side.now
    (c.in-Ok.ensures.side ∙ ap pairs_of (c.loop-item.invariant ∙ take_all c.loop-item.item-index c.items-items.result.now c.loop-item-test.false) ∙ c.items-items.ensures.items)

pub unreachable-requires : goal.unreachable-requires
unreachable-requires c =
    no_fault c.from_preorder.result _ c.in-Err.field-0 c.in-Err.is c.from_preorder.ensures.not_a_tree c.from_preorder.ensures.no_memory c.args.side.now
    (sym (ap pairs_of (c.loop-item.invariant ∙ take_all c.loop-item.item-index c.items-items.result.now c.loop-item-test.false) ∙ c.items-items.ensures.items))
