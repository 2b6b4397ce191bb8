use Rattle.tib_strings.proofs.SomeText.{text_or_fault}
use Rattle.tib_strings.proofs.transducer_laws.string_transducer_files_are_texts_or_faulty.Goals as goal

pub returns : goal.returns
returns c = text_or_fault
