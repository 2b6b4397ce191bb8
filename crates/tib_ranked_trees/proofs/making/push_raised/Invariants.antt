use Rattle.std.proofs.Common.{◌≡◌, ◌++◌}
use Rattle.std.specs.Prelude.{take, drop}
use Rattle.tib_ranked_trees.specs.Held.{raise}
use Rattle.tib_ranked_trees.proofs.making.push_raised.Given as goal

abbrev pub invariant-loop-j : goal.invariant-loop-j
invariant-loop-j l = l.ranks.items ≡ l.initial.ranks.items ++ take l.j (raise l.i (take l.count (drop l.start l.initial.ranks.items)))
