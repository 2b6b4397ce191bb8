use Rattle.std.proofs.Common.{ap, sym}
use Rattle.tib_tree.specs.Trees.{none}
use Rattle.tib_grammar.specs.Sides.{label}
use Rattle.tib_grammar.specs.Items.{pairs_of}
use Rattle.tib_image.proofs.Copying.{no_fault}
use Rattle.tib_image.proofs.parse.readers.no_output.Goals as goal

pub unreachable-requires : goal.unreachable-requires
unreachable-requires c =
    no_fault c.from_preorder.result _ c.in-Err.field-0 c.in-Err.is c.from_preorder.ensures.not_a_tree c.from_preorder.ensures.no_memory (record { label = label 0; kids = none })
    (sym (ap pairs_of c.in_ok-items.ensures.items))
