use Rattle.tib_compare.proofs.Glue.{cause_of}
use Rattle.tib_compare.proofs.Within.{within_of}
use Rattle.tib_reached.proofs.comparison.compare_supports.Goals as goal

pub compare_vectors-requires-clause-within : goal.compare_vectors-requires-clause-within
compare_vectors-requires-clause-within g c =
    within_of c.args.left.now c.args.right.now c.args.limit c.in-Ok.both.rules c.in-Ok.ensures.rules c.in-Ok-determinize_together.found c.in-Ok-determinize_together.ensures.determinized c.in-Ok-determinize_together.ensures.parts
    c.in-Ok-determinize_together.ensures.within

pub returns-clause-cause : goal.returns-clause-cause
returns-clause-cause g c =
    cause_of c.args.left.now c.args.right.now c.args.limit c.in-Ok.both.rules c.in-Ok.ensures.rules c.in-Err.error c.in-Err.ensures.more c.fault_of.result c.fault_of.ensures
