use Rattle.std.proofs.Common.{◌+◌, ◌-◌, length}
use Rattle.tib_determinize.proofs.wide.mark.Given as goal

abbrev pub decreases-loop-wide : goal.decreases-loop-wide
decreases-loop-wide l = (l.state + 1) - length l.wide.items
