use Rattle.std.proofs.Common.{◌≡◌, take, map}
use Rattle.tib_canon.proofs.numbering.positions_of.Given as goal

abbrev pub invariant-loop-key : goal.invariant-loop-key
invariant-loop-key g l = l.positions.items ≡ map (λ k. k.2) (take l.key-index l.keys)
