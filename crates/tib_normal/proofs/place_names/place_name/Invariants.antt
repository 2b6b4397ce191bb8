use Rattle.tib_normal.proofs.PlaceNames.{IsWriting}
use Rattle.tib_normal.proofs.place_names.place_name.Given as goal

abbrev pub invariant-loop-first : goal.invariant-loop-first
invariant-loop-first l = IsWriting l.length l.number l.first l.rest l.name.items

abbrev pub decreases-loop-first : goal.decreases-loop-first
decreases-loop-first l = l.first
