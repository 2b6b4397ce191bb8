use Rattle.tib_grammar.proofs.OneRun.{one_start_run}
use Rattle.tib_grammar.proofs.laws.one_run.Goals as goal

pub returns : goal.returns
returns c = λ rules ends form. one_start_run rules form ends
