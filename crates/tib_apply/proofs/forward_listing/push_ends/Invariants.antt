use Rattle.std.proofs.Common.{◌≡◌, ◌++◌, drop, map}
use Rattle.tib_apply.specs.ForwardPlans.{end_at}
use Rattle.tib_apply.proofs.forward_listing.push_ends.Given as goal

abbrev pub invariant-loop-end : goal.invariant-loop-end
invariant-loop-end l = l.ends.items ++ map (end_at l.states) (drop l.end-index l.planned) ≡ l.initial.ends.items ++ map (end_at l.states) l.planned
