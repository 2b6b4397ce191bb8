use Rattle.std.specs.Prelude.{ℕ, List, length, ◌∷◌, []}
use Rattle.std.specs.Global.{Vec}
use Rattle.std.proofs.Common.{arith, ap, length-append}
use Rattle.tib_lazy_lists.proofs.Begun.{none_more}
use Rattle.tib_lazy_lists.proofs.beginning.no_rules.Goals as goal

pub loop-state-preserved : goal.loop-state-preserved
loop-state-preserved c = (
  none_more c.loop-state.by_state.items c.push.new.self.items c.new.result c.in_ok-push.ensures.items c.new.ensures.items c.loop-state.invariant.0,
  omega (arith, c.loop-state.invariant.1, ap (λ (vs : List (Vec ℕ)). length vs) c.in_ok-push.ensures.items, length-append c.loop-state.by_state.items (c.new.result ∷ [])),
)
