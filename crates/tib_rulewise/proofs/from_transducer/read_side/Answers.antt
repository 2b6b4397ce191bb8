use Rattle.std.proofs.Common.{arith, ap, ◌∙◌}
use Rattle.std.proofs.lemmas.Result.{IfOk-weaker}
use Rattle.tib_grammar.specs.Items.{pairs_of}
use Rattle.tib_rulewise.specs.Placed.{placed_side}
use Rattle.tib_rulewise.specs.Inverse.{variable_at}
use Rattle.tib_rulewise.proofs.PlacedItems.{side_same, one_tree, items-placed}
use Rattle.tib_rulewise.proofs.from_transducer.read_side.Goals as goal

pub side_of-requires : goal.side_of-requires
side_of-requires c = (
  omega arith,
  (
    omega arith,
    one_tree c.in_ok-read.read.items (placed_side variable_at c.args.side.now)
        (ap pairs_of c.in_ok-read.ensures ∙ items-placed variable_at c.items-items.result.now c.args.side.now c.items-items.ensures.items c.items-items.ensures.leaves),
  ),
)

pub returns : goal.returns
returns c =
    IfOk-weaker c.side_of.result _ _
    (λ s e. side_same s (placed_side variable_at c.args.side.now)
    (e ∙ ap pairs_of c.in_ok-read.ensures ∙ items-placed variable_at c.items-items.result.now c.args.side.now c.items-items.ensures.items c.items-items.ensures.leaves))
    c.side_of.ensures
