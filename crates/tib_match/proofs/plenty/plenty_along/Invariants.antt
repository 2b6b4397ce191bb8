use Rattle.std.proofs.Common.{◌-◌, length, map, take, drop}
use Rattle.tib_grammar.specs.Items.{state_in}
use Rattle.tib_match.specs.Counting.{HasAlong, plenties_of}
use Rattle.tib_match.proofs.plenty.plenty_along.Given as goal

abbrev pub invariant-loop-i : goal.invariant-loop-i
invariant-loop-i g l = HasAlong g.S.Semiring.product (plenties_of (take l.i l.columns)) (map state_in (drop (length l.states - l.i) l.states)) l.total.count l.total.worst

abbrev pub decreases-loop-i : goal.decreases-loop-i
decreases-loop-i g l = length l.columns - l.i
