use Rattle.std.proofs.Common.{◌+◌, ◌*◌}
use Rattle.tib_texts.proofs.text.+lines.Given as goal

abbrev pub decreases-lines_of_halves : goal.decreases-lines_of_halves
decreases-lines_of_halves g l = 2 * l.times + 1

abbrev pub decreases-of_front : goal.decreases-of_front
decreases-of_front g l = 2 * l.times

abbrev pub decreases-of_back : goal.decreases-of_back
decreases-of_back g l = 2 * l.times
