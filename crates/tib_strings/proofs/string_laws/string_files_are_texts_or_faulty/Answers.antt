use Rattle.tib_strings.proofs.Strings.{text_or_fault}
use Rattle.tib_strings.proofs.string_laws.string_files_are_texts_or_faulty.Goals as goal

pub returns : goal.returns
returns c = text_or_fault
