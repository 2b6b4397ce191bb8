use Rattle.std.proofs.Common.{◌≡◌, take, map, get_or, []}
use Rattle.tib_trim.proofs.seen.names_of.Given as goal

abbrev pub invariant-loop-state : goal.invariant-loop-state
invariant-loop-state l = map (λ t. t.items) l.texts.items ≡ map (λ q. get_or l.names q []) (take l.state-index l.states)
