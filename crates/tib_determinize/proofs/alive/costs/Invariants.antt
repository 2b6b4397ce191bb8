use Rattle.std.proofs.Common.{◌≡◌, ◌++◌, drop}
use Rattle.tib_determinize.specs.Alive.{costs_of}
use Rattle.tib_determinize.proofs.alive.costs.Given as goal

abbrev pub invariant-loop-one : goal.invariant-loop-one
invariant-loop-one g l = l.costs.items ++ costs_of g.S.Semiring.product l.rules (drop l.one-index l.alive) ≡ costs_of g.S.Semiring.product l.rules l.alive
