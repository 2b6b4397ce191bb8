use Rattle.std.proofs.Common.{◌≡◌, ap, ◌∙◌, sym}
use Rattle.tib_tree.specs.Trees.{preorder_of}
use Rattle.tib_grammar.specs.Items.{pairs_of}
use Rattle.tib_grammar.proofs.Holes.{side_same}
use Rattle.tib_grammar.proofs.Sides.{no_fault}
use Rattle.tib_hunted_texts.proofs.copies.copied_side.Goals as goal

pub unreachable-requires : goal.unreachable-requires
unreachable-requires c =
    no_fault c.from_preorder.result (λ s. preorder_of s ≡ pairs_of c.in_ok-items.items.items) c.in-Err.field-0 c.in-Err.is c.from_preorder.ensures.not_a_tree c.from_preorder.ensures.no_memory c.args.side.now
    (sym (ap pairs_of c.in_ok-items.ensures ∙ c.items.ensures.items))

pub returns : goal.returns
returns c = side_same c.in-Ok.copy c.args.side.now (c.in-Ok.ensures.side ∙ ap pairs_of c.in_ok-items.ensures ∙ c.items.ensures.items)
