use Rattle.std.proofs.Common.{◌≡◌, ◌++◌}
use Rattle.std.specs.Prelude.{drop, map}
use Rattle.tib_compare.specs.Wanted.{differs}
use Rattle.tib_compare.proofs.wanted.marks_of.Given as goal

abbrev pub invariant-loop-vector : goal.invariant-loop-vector
invariant-loop-vector l = l.marks.items ++ map (differs l.second) (drop l.vector-index l.order) ≡ map (differs l.second) l.order
