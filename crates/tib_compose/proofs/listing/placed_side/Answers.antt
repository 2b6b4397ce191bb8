use Rattle.std.proofs.Common.{◌∙◌, ap}
use Rattle.std.specs.Prelude.{Err}
use Rattle.tib_tree.specs.Trees.{first_of, parse, preorder-first}
use Rattle.tib_grammar.specs.Sides.{label}
use Rattle.tib_grammar.specs.Items.{pairs_of}
use Rattle.tib_compose.proofs.listing.placed_side.Goals as goal

pub unreachable-requires : goal.unreachable-requires
unreachable-requires c =
    c.from_preorder.ensures.not_a_tree (c.in-Err-NotATree.is ∙ ap Err c.in-Err-NotATree.field-0-is)
    (first_of (label 0) (parse (pairs_of c.args.items.items))) (preorder-first (label 0) (pairs_of c.args.items.items) c.requires.tree)
