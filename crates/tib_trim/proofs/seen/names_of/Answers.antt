use Rattle.std.proofs.Common.{map, ◌∙◌, ap}
use Rattle.tib_inside.proofs.Renamed.{names_more}
use Rattle.tib_trim.proofs.seen.names_of.Goals as goal

pub loop-state-preserved : goal.loop-state-preserved
loop-state-preserved c =
    ap (map (λ t. t.items)) c.in_ok-push.ensures.items
    ∙ names_more (λ t. t.items) c.loop-state.texts.items c.in_ok-from_slice.field-0 c.args.names.now c.args.states.now c.loop-state.state-index c.text.result.now c.loop-state-test.true c.loop-state.invariant c.in_ok-from_slice.ensures.items c.text.ensures
