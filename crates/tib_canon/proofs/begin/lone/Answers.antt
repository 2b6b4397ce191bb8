use Rattle.std.proofs.Common.{◌≡◌, ◌∙◌, ap, sym}
use Rattle.tib_tree.specs.Trees.{preorder_of}
use Rattle.tib_grammar.specs.Items.{pairs_of}
use Rattle.tib_grammar.specs.Sides.{Lone}
use Rattle.tib_grammar.proofs.Holes.{side_same}
use Rattle.tib_canon.proofs.begin.lone.Goals as goal
use Rattle.tib_grammar.proofs.Sides.{no_fault}

pub unreachable-requires : goal.unreachable-requires
unreachable-requires c =
    no_fault c.from_preorder.result (λ s. preorder_of s ≡ pairs_of c.in_ok-items.items.items) c.in-Err.field-0 c.in-Err.is c.from_preorder.ensures.not_a_tree c.from_preorder.ensures.no_memory (Lone c.args.state)
    (sym (ap pairs_of c.in_ok-items.ensures.items))

pub returns : goal.returns
returns c = side_same c.in-Ok.side (Lone c.args.state) (c.in-Ok.ensures.side ∙ ap pairs_of c.in_ok-items.ensures.items)
