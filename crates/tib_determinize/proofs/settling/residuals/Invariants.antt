use Rattle.std.proofs.Common.{ℕ, List, ◌++◌, drop}
use Rattle.tib_lex.specs.Lists.{Along}
use Rattle.tib_determinize.specs.Settling.{IsOver}
use Rattle.tib_determinize.proofs.settling.residuals.Given as goal

abbrev pub invariant-loop-i : goal.invariant-loop-i
invariant-loop-i g l = (rest : List (ℕ × ℕ)) → Along (IsOver g.S.Semiring.product l.least) (drop l.i l.costs) rest → Along (IsOver g.S.Semiring.product l.least) l.costs (l.over.items ++ rest)
