use Rattle.tib_count.specs.Counted.{IsRun, IsTree}
use Rattle.tib_count.proofs.SetCounts.{count_is_one}
use Rattle.tib_count.proofs.laws.one_count.Goals as goal

pub returns-clause-runs : goal.returns-clause-runs
returns-clause-runs c = λ rules. count_is_one (IsRun rules)

pub returns-clause-trees : goal.returns-clause-trees
returns-clause-trees c = λ rules. count_is_one (IsTree rules)
