use Rattle.std.proofs.Common.{◌≡◌, drop}
use Rattle.tib_difference.specs.Lefts.{holds}
use Rattle.tib_difference.proofs.subset_key.is_among.Given as goal

abbrev pub invariant-loop-other : goal.invariant-loop-other
invariant-loop-other l = holds l.states l.state ≡ holds (drop l.other-index l.states) l.state
