use Rattle.std.specs.Prelude.{List, length, ◌∷◌, []}
use Rattle.std.proofs.Common.{arith, ap, length-append}
use Rattle.tib_lazy_lists.specs.declared.asking.Asked.{Asked}
use Rattle.tib_lazy_lists.proofs.Begun.{states_more}
use Rattle.tib_lazy_lists.proofs.beginning.first_states.Goals as goal

pub loop-state-preserved : goal.loop-state-preserved
loop-state-preserved g c = (
  states_more g.S.Semiring.product c.args.lists.now c.loop-state.asked.items c.push.new.self.items c.first_state.result c.loop-state.state c.in_ok-push.ensures.items c.loop-state.invariant.1 c.first_state.ensures c.loop-state.invariant.0,
  omega (arith, c.loop-state.invariant.1, ap (λ (vs : List Asked). length vs) c.in_ok-push.ensures.items, length-append c.loop-state.asked.items (c.first_state.result ∷ [])),
)
