use Rattle.std.proofs.Common.{[]}
use Rattle.tib_inside.specs.Settling.{costs_in, IsSettlingUpTo}
use Rattle.tib_inside.proofs.pending.begin.Given as goal

abbrev pub invariant-loop-n : goal.invariant-loop-n
invariant-loop-n g l = IsSettlingUpTo g.S.Semiring.product l.rules l.n (costs_in l.costs) 0 [] l.pending.items l.agenda
