use Rattle.tib_transducer_file.proofs.FileOrdered.{reads_ordered}
use Rattle.tib_transducer_file.proofs.printed_laws.ordered_transducers_are_read.Goals as goal

pub returns : goal.returns
returns c = reads_ordered
