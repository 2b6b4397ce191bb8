use Rattle.tib_key_edges.proofs.Flattened.{translations_end_in_holes}
use Rattle.tib_key_edges.proofs.composition.translations_end_in_holes.Goals as goal

pub returns : goal.returns
returns c = λ two ps sides choice. translations_end_in_holes two choice ps sides
