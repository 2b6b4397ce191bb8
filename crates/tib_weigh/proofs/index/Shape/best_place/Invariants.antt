use Rattle.std.proofs.Common.{◌<◌, length}
use Rattle.tib_weigh.proofs.index.Shape.best_place.Given as goal

abbrev pub invariant-loop-place : goal.invariant-loop-place
invariant-loop-place l = l.best < length l.self.tables.items
