use Rattle.std.proofs.Common.{◌≡◌, ◌+◌, ◌∷◌, take, map}
use Rattle.tib_canon.proofs.numbering.behind_fresh_start.Given as goal

abbrev pub invariant-loop-key : goal.invariant-loop-key
invariant-loop-key g l = l.states.items ≡ 0 ∷ map (λ k. k.2 + 1) (take l.key-index l.keys)
