use Rattle.std.proofs.Common.{sym, ◌∙◌}
use Rattle.tib_grammar.proofs.Sides.{no_fault, side_same}
use Rattle.tib_apply.proofs.placing.side_of.Goals as goal

pub unreachable-requires : goal.unreachable-requires
unreachable-requires c =
    no_fault c.from_preorder.result _ c.in-Err.field-0 c.in-Err.is c.from_preorder.ensures.not_a_tree c.from_preorder.ensures.no_memory c.requires.there.0 c.requires.there.1

pub returns : goal.returns
returns c s e = side_same c.in-Ok.side s (c.in-Ok.ensures.side ∙ sym e)
