use Rattle.std.proofs.Common.{arith, ap, ◌∙◌, length}
use Rattle.std.proofs.lemmas.Result.{IfOk-weaker}
use Rattle.tib_grammar.specs.Items.{pairs_of}
use Rattle.tib_grammar.specs.Sides.{side_map}
use Rattle.tib_expand.specs.EdgeLists.{position_of}
use Rattle.tib_transducer.specs.NamedPairs.{named_pair}
use Rattle.tib_transducer.proofs.NamedItems.{one_tree, preorder-named}
use Rattle.tib_compose.proofs.Settled.{tree_same, right_within}
use Rattle.tib_compose.proofs.settling.settled_right.Goals as goal

pub settled_items-requires : goal.settled_items-requires
settled_items-requires c = (c.requires.0, right_within c.requires.0 (length c.args.ends.now) c.items.result.now c.args.right.now c.items.ensures.items c.requires.1)

pub side_of-requires : goal.side_of-requires
side_of-requires c = (
  omega arith,
  one_tree (pairs_of c.in_ok-items.items.items) (side_map (named_pair (position_of c.args.ends.now)) c.args.right.now)
      (ap pairs_of c.in_ok-items.ensures ∙ preorder-named (position_of c.args.ends.now) c.args.right.now c.items.result.now c.items.ensures.items),
)

pub returns : goal.returns
returns c =
    IfOk-weaker c.side_of.result _ _
    (λ s e. tree_same s (side_map (named_pair (position_of c.args.ends.now)) c.args.right.now)
    (e ∙ ap pairs_of c.in_ok-items.ensures ∙ preorder-named (position_of c.args.ends.now) c.args.right.now c.items.result.now c.items.ensures.items))
    c.side_of.ensures
