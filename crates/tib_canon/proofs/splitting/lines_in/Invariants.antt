use Rattle.std.proofs.Common.{ℕ, List, map, length}
use Rattle.tib_canon.specs.TransducerLines.{AreLinesOf}
use Rattle.tib_canon.proofs.Split.{Goes}
use Rattle.tib_canon.proofs.splitting.lines_in.Given as goal

abbrev pub invariant-loop-rest : goal.invariant-loop-rest
invariant-loop-rest l = (lines : List (List ℕ)) → AreLinesOf l.text lines → Goes lines (map (λ line. line.now) l.lines.items) l.rest

abbrev pub decreases-loop-rest : goal.decreases-loop-rest
decreases-loop-rest l = length l.rest
