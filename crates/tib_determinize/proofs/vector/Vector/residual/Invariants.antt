use Rattle.std.proofs.Common.{◌≡◌, drop}
use Rattle.tib_determinize.specs.Lookup.{residual_in}
use Rattle.tib_determinize.proofs.vector.Vector.residual.Given as goal

abbrev pub invariant-loop-other : goal.invariant-loop-other
invariant-loop-other l = residual_in l.state (drop l.other-index l.other-items) ≡ residual_in l.state l.self
