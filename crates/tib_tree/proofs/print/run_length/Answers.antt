use Rattle.tib_tree.proofs.Runs.{run_is}
use Rattle.tib_tree.proofs.print.run_length.Goals as goal

pub returns-clause-run : goal.returns-clause-run
returns-clause-run c = run_is c.args.bytes.now c.count_plain.result c.requires c.count_plain.ensures.count
