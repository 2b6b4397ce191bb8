use Rattle.std.proofs.Common.{arith, length, map, ◌∙◌}
use Rattle.std.specs.Prelude.{true}
use Rattle.std.proofs.lemmas.List.{length-set}
use Rattle.tib_grammar.specs.Items.{state_in}
use Rattle.tib_prune.proofs.Told.{state_below}
use Rattle.tib_prune.proofs.Untrimmed.{marked_more, state_stands}
use Rattle.tib_prune.proofs.whole.mark_states.Goals as goal

pub index_mut-requires : goal.index_mut-requires
index_mut-requires c =
    let b = state_below (length c.args.marks.now.items) c.args.states.now c.loop-item.item-index c.state.result _ c.requires c.loop-item-test.true c.state.ensures in
    omega (arith, b, c.loop-item.invariant.long, c.loop-item.marks.ok.0)

pub loop-item-preserved : goal.loop-item-preserved
loop-item-preserved c = record {
  long = length-set c.loop-item.marks.items c.state.result true ∙ c.loop-item.invariant.long;
  only = λ q m. marked_more c.args.marks.now.items c.loop-item.marks.items (map state_in c.args.states.now) c.state.result q (state_stands c.args.states.now c.loop-item.item-index c.state.result _ c.loop-item-test.true c.state.ensures)
      c.loop-item.invariant.only m;
}
