use Rattle.std.proofs.Common.{◌≤◌, length, drop}
use Rattle.tib_tree.specs.Recent.{IsKey}
use Rattle.tib_tree.proofs.recent.key_of.Given as goal

abbrev pub invariant-loop-i : goal.invariant-loop-i
invariant-loop-i l = (l.i ≤ length l.text) × IsKey (drop l.i l.text) l.key

abbrev pub decreases-loop-i : goal.decreases-loop-i
decreases-loop-i l = l.i
