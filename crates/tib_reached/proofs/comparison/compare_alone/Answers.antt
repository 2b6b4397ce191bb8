use Rattle.tib_compare.proofs.Glue.{cause_of}
use Rattle.tib_reached.proofs.comparison.compare_alone.Goals as goal

pub returns-clause-cause : goal.returns-clause-cause
returns-clause-cause g c =
    cause_of c.args.left.now c.args.right.now c.args.limit c.in-Ok.both.rules c.in-Ok.ensures.rules c.in-Err.error c.in-Err.ensures.more c.fault_of.result c.fault_of.ensures
