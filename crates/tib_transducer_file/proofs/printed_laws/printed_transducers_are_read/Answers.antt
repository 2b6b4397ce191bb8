use Rattle.tib_transducer_file.proofs.FileBack.{prints_back}
use Rattle.tib_transducer_file.proofs.printed_laws.printed_transducers_are_read.Goals as goal

pub returns : goal.returns
returns c = prints_back
