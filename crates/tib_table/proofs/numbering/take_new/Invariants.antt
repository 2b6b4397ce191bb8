use Rattle.std.proofs.Common.{length}
use Rattle.tib_table.proofs.Sights.{TakenSoFar}
use Rattle.tib_table.proofs.numbering.take_new.Given as goal

abbrev pub invariant-loop-keys : goal.invariant-loop-keys
invariant-loop-keys g l = TakenSoFar l.first l.fn.keys.keys l.keys.keys l.new.items

abbrev pub decreases-loop-keys : goal.decreases-loop-keys
decreases-loop-keys g l = length l.keys.keys
