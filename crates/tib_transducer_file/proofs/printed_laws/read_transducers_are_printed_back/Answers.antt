use Rattle.tib_transducer_file.proofs.ReadBack.{read_back}
use Rattle.tib_transducer_file.proofs.printed_laws.read_transducers_are_printed_back.Goals as goal

pub returns : goal.returns
returns c = read_back
