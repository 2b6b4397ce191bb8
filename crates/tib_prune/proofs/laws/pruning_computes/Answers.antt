use Rattle.tib_prune.proofs.Examples.{costs, narrow, wide}
use Rattle.tib_prune.proofs.laws.pruning_computes.Goals as goal

pub returns-clause-costs : goal.returns-clause-costs
returns-clause-costs c = costs

pub returns-clause-narrow : goal.returns-clause-narrow
returns-clause-narrow c = narrow

pub returns-clause-wide : goal.returns-clause-wide
returns-clause-wide c = wide
