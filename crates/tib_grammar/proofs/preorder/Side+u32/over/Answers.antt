use Rattle.std.proofs.Common.{ap, sym, ◌∙◌}
use Rattle.tib_tree.specs.Trees.{preorder_of}
use Rattle.tib_grammar.specs.Items.{pairs_of}
use Rattle.tib_grammar.proofs.Holes.{pairs-items_over, side-items_over}
use Rattle.tib_grammar.proofs.preorder.Side+u32.over.Goals as goal

pub invariant_of-result : goal.invariant_of-result
invariant_of-result c =
    let states = c.args.states.now in
    ap preorder_of (side-items_over c.in_ok-items.items.items c.args.label states c.in_ok-items.ensures)
    ∙ sym (ap pairs_of c.in_ok-items.ensures ∙ pairs-items_over c.args.label states)

pub returns : goal.returns
returns c = side-items_over c.in_ok-items.items.items c.args.label c.args.states.now c.in_ok-items.ensures
