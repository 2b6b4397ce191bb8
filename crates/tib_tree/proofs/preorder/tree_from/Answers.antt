use Rattle.std.proofs.Common.{arith, ◌∙◌, ap, refl}
use Rattle.tib_tree.specs.Trees.{parse, first_of}
use Rattle.tib_tree.specs.Filled.{sized_back}
use Rattle.tib_tree.proofs.Fill.{filled, preorder_same, few_sized, only_one}
use Rattle.tib_tree.proofs.preorder.tree_from.Goals as goal

pub place_nodes-requires : goal.place_nodes-requires
place_nodes-requires c = record { few = omega (arith, c.requires.few, few_sized c.args.items.now c.size_nodes.new.back.items c.in_ok-size_nodes.ensures) }

pub invariant_of-result : goal.invariant_of-result
invariant_of-result c =
    filled (first_of 0 (parse c.args.items.now)) c.in_ok-nodes.nodes.items (c.in_ok-nodes.ensures (first_of 0 (parse c.args.items.now)) (c.in_ok-size_nodes.ensures ∙ ap sized_back (only_one c.args.items.now c.requires.one)))

pub returns : goal.returns
returns c =
    preorder_same (first_of 0 (parse c.args.items.now)) c.args.items.now c.in_ok-nodes.nodes.items c.requires.one refl (c.in_ok-nodes.ensures (first_of 0 (parse c.args.items.now)) (c.in_ok-size_nodes.ensures ∙ ap sized_back (only_one c.args.items.now c.requires.one)))
