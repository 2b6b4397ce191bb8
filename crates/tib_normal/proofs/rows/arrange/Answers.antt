use Rattle.tib_grammar.specs.ShapeBuckets.{lists_of}
use Rattle.tib_normal.proofs.Arranging.{arranging-none, arranging-next, arranged}
use Rattle.tib_normal.proofs.rows.arrange.Goals as goal

pub loop-state-init : goal.loop-state-init
loop-state-init c = arranging-none (lists_of c.args.sides.now.table.keys) c.args.rows.now c.in_ok-rules.rules.items c.in_ok-rules.ensures.items

pub loop-state-preserved : goal.loop-state-preserved
loop-state-preserved c = arranging-next (lists_of c.args.sides.now.table.keys) c.args.rows.now c.loop-state.state c.list_state.new.rules.items c.in_ok-list_state.ensures

pub returns : goal.returns
returns c = arranged (lists_of c.args.sides.now.table.keys) c.args.rows.now c.loop-state.state c.args.states c.loop-state.rules.items c.loop-state-test.false c.loop-state.invariant
