use Rattle.std.proofs.Common.{◌-◌, ◌^◌}
use Rattle.tib_compose.proofs.composite.Composite.asked_by.Given as goal

abbrev pub decreases-loop-i : goal.decreases-loop-i
decreases-loop-i g l = 2 ^ 64 - l.i
