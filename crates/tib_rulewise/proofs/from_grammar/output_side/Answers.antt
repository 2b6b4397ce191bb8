use Rattle.std.proofs.Common.{arith, ap, ◌∙◌}
use Rattle.std.proofs.lemmas.Result.{IfOk-weaker}
use Rattle.tib_grammar.specs.Items.{pairs_of}
use Rattle.tib_rulewise.specs.Placed.{placed_side}
use Rattle.tib_rulewise.specs.Derivations.{read_from}
use Rattle.tib_rulewise.proofs.PlacedItems.{side_same, one_tree, items-placed}
use Rattle.tib_rulewise.proofs.from_grammar.output_side.Goals as goal

pub side_of-requires : goal.side_of-requires
side_of-requires c = (
  omega arith,
  (
    omega arith,
    one_tree c.in_ok-output.output.items (placed_side read_from c.args.side.now)
        (ap pairs_of c.in_ok-output.ensures ∙ items-placed read_from c.items-items.result.now c.args.side.now c.items-items.ensures.items c.items-items.ensures.leaves),
  ),
)

pub returns : goal.returns
returns c =
    IfOk-weaker c.side_of.result _ _
    (λ s e. side_same s (placed_side read_from c.args.side.now)
    (e ∙ ap pairs_of c.in_ok-output.ensures ∙ items-placed read_from c.items-items.result.now c.args.side.now c.items-items.ensures.items c.items-items.ensures.leaves))
    c.side_of.ensures
