use Rattle.std.proofs.Common.{◌≡◌, ◌++◌, drop}
use Rattle.tib_difference.specs.Tries.{grown}
use Rattle.tib_difference.specs.Walks.{prefixes_of}
use Rattle.tib_difference.proofs.choices.push_grown.Given as goal

abbrev pub invariant-loop-position : goal.invariant-loop-position
invariant-loop-position l = prefixes_of l.stack.items ++ grown l.prefix (drop l.position-index l.positions) ≡ prefixes_of l.initial.stack.items ++ grown l.prefix l.positions
