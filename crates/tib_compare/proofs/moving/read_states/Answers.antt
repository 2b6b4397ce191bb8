use Rattle.tib_grammar.specs.Sides.{holes}
use Rattle.tib_compare.proofs.Raising.{item_raised}
use Rattle.tib_compare.proofs.moving.read_states.Goals as goal

pub overflow_add-by : goal.overflow_add-by
overflow_add-by c = record {
  fits = item_raised c.args.by c.states_below-below.result.now c.loop-item.item-index _ c.state.result c.state.ensures c.loop-item-test.true
      (holes c.args.rule.now.right.kids) c.states_below-below.ensures.states c.requires.raised.states;
}
