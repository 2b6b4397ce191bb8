use Rattle.std.proofs.Common.{◌≡◌, take, map}
use Rattle.tib_canon.proofs.transducer_lines.positions_of.Given as goal

abbrev pub invariant-loop-line : goal.invariant-loop-line
invariant-loop-line l = l.positions.items ≡ map (λ line. line.position) (take l.line-index l.lines)
