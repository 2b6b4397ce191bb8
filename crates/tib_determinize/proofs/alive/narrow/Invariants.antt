use Rattle.std.proofs.Common.{◌≡◌, ◌++◌, drop}
use Rattle.tib_determinize.specs.Alive.{narrowed}
use Rattle.tib_determinize.proofs.alive.narrow.Given as goal

abbrev pub invariant-loop-one : goal.invariant-loop-one
invariant-loop-one g l =
    l.left.items ++ narrowed g.S.Semiring.product l.rules l.place l.vector (drop l.one-index l.alive) ≡ narrowed g.S.Semiring.product l.rules l.place l.vector l.alive
