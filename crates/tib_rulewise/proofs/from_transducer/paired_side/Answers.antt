use Rattle.std.proofs.Common.{◌<◌, arith, ap, ◌∙◌, length}
use Rattle.std.proofs.lemmas.Result.{IfOk-weaker}
use Rattle.tib_grammar.specs.Items.{pairs_of}
use Rattle.tib_grammar.specs.Sides.{side_map}
use Rattle.tib_rulewise.specs.Paired.{pair_in}
use Rattle.tib_rulewise.proofs.Items.{each_of_side, items-with}
use Rattle.tib_rulewise.proofs.PlacedItems.{side_same, one_tree}
use Rattle.tib_rulewise.proofs.from_transducer.paired_side.Goals as goal

pub paired_items-requires : goal.paired_items-requires
paired_items-requires c = each_of_side (λ x. x.number < length c.args.listed.now) c.args.side.now c.items.result.now c.items.ensures.items c.requires

pub side_of-requires : goal.side_of-requires
side_of-requires c = (
  omega arith,
  (
    omega arith,
    one_tree c.in_ok-paired.paired.items (side_map (pair_in c.args.listed.now) c.args.side.now)
        (ap pairs_of c.in_ok-paired.ensures ∙ items-with (pair_in c.args.listed.now) c.args.side.now c.items.result.now c.items.ensures.items),
  ),
)

pub returns : goal.returns
returns c =
    IfOk-weaker c.side_of.result _ _
    (λ s e. side_same s (side_map (pair_in c.args.listed.now) c.args.side.now)
    (e ∙ ap pairs_of c.in_ok-paired.ensures ∙ items-with (pair_in c.args.listed.now) c.args.side.now c.items.result.now c.items.ensures.items))
    c.side_of.ensures
