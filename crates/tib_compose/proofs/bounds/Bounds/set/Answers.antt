use Rattle.std.proofs.Common.{◌≡◌, ℕ, Bool, true, false, Option, Some, cond, ap, refl, ◌∙◌}
use Rattle.tib_compose.specs.Bounds.{or_nothing, same_pair}
use Rattle.tib_compose.proofs.bounds.Bounds.set.Goals as goal

by_case : (b : Bool) (v : Option ℕ) (old : Option (Option ℕ)) → or_nothing (cond b (Some v) old) ≡ cond b v (or_nothing old)
by_case true v old = refl
by_case false v old = refl

pub returns : goal.returns
returns c i p = ap or_nothing (c.in_ok-insert.ensures.updates.0 (i, p)) ∙ by_case (same_pair (c.args.node, c.args.state) (i, p)) c.args.bound _
