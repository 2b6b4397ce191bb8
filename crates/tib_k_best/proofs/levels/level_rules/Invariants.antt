use Rattle.std.proofs.Common.{◌≡◌, ◌++◌}
use Rattle.std.specs.Prelude.{drop}
use Rattle.tib_ranked_trees.specs.Levels.{level}
use Rattle.tib_k_best.proofs.levels.level_rules.Given as goal

abbrev pub invariant-loop-rule : goal.invariant-loop-rule
invariant-loop-rule g l = l.free.items ++ level l.cost (drop l.rule-index l.rules) ≡ level l.cost l.rules
