use Rattle.tib_transducer_file.proofs.SomeText.{text_or_fault}
use Rattle.tib_transducer_file.proofs.laws.transducer_files_are_texts_or_faulty.Goals as goal

pub returns : goal.returns
returns c = text_or_fault
