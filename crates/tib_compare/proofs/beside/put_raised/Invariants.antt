use Rattle.std.proofs.Common.{◌≡◌, ◌++◌}
use Rattle.std.specs.Prelude.{drop}
use Rattle.tib_compare.specs.Beside.{raised}
use Rattle.tib_compare.proofs.beside.put_raised.Given as goal

abbrev pub invariant-loop-rule : goal.invariant-loop-rule
invariant-loop-rule l = l.all.items ++ raised l.by (drop l.rule-index l.rules) ≡ l.initial.all.items ++ raised l.by l.rules
