use Rattle.tib_transducer.proofs.FirstParts.{reads, reads_no_other}
use Rattle.tib_transducer.proofs.examples.runs_compute.Goals as goal

pub returns-clause-reads : goal.returns-clause-reads
returns-clause-reads c = reads

pub returns-clause-reads_no_other : goal.returns-clause-reads_no_other
returns-clause-reads_no_other c = reads_no_other
