use Rattle.std.proofs.Common.{◌+◌, ◌*◌}
use Rattle.tib_hunt.proofs.dividing.+halves.Given as goal

abbrev pub decreases-place_halves : goal.decreases-place_halves
decreases-place_halves g l = 2 * l.times + 1

abbrev pub decreases-of_front : goal.decreases-of_front
decreases-of_front g l = 2 * l.times

abbrev pub decreases-of_back : goal.decreases-of_back
decreases-of_back g l = 2 * l.times
