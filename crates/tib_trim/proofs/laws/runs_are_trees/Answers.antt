use Rattle.tib_trim.proofs.RunsOf.{normal, runs_to, runs_from_them, yields_them}
use Rattle.tib_trim.proofs.laws.runs_are_trees.Goals as goal

pub returns-clause-normal : goal.returns-clause-normal
returns-clause-normal c = normal

pub returns-clause-runs : goal.returns-clause-runs
returns-clause-runs c = λ rules qs runs. (runs_to rules qs runs, runs_from_them rules qs runs)

pub returns-clause-yields : goal.returns-clause-yields
returns-clause-yields c = yields_them
