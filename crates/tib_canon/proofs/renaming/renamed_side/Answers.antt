use Rattle.std.proofs.Common.{ap, ◌∙◌, length}
use Rattle.std.proofs.lemmas.Result.{IfOk-weaker}
use Rattle.tib_grammar.specs.Items.{pairs_of}
use Rattle.tib_grammar.specs.Renaming.{number_in}
use Rattle.tib_grammar.specs.Sides.{side_map}
use Rattle.tib_transducer.specs.NamedPairs.{named_pair}
use Rattle.tib_transducer.proofs.NamedItems.{one_tree, preorder-named}
use Rattle.tib_canon.proofs.Renamed.{states_are}
use Rattle.tib_canon.proofs.renaming.renamed_side.Goals as goal
use Rattle.tib_grammar.proofs.Sides.{side_same}

pub renamed_items-requires : goal.renamed_items-requires
renamed_items-requires c = states_are (length c.args.numbers.now) c.items.result.now c.args.side.now c.items.ensures.items c.requires

pub side_of-requires : goal.side_of-requires
side_of-requires c =
    one_tree (pairs_of c.in_ok-items.items.items) (side_map (named_pair (number_in c.args.numbers.now)) c.args.side.now)
    (ap pairs_of c.in_ok-items.ensures ∙ preorder-named (number_in c.args.numbers.now) c.args.side.now c.items.result.now c.items.ensures.items)

pub returns : goal.returns
returns c =
    IfOk-weaker c.side_of.result _ _
    (λ s e. side_same s (side_map (named_pair (number_in c.args.numbers.now)) c.args.side.now)
    (e ∙ ap pairs_of c.in_ok-items.ensures ∙ preorder-named (number_in c.args.numbers.now) c.args.side.now c.items.result.now c.items.ensures.items))
    c.side_of.ensures
