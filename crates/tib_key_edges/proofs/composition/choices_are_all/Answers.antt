use Rattle.tib_key_edges.proofs.Choosing.{choices_once, choices_are}
use Rattle.tib_key_edges.proofs.composition.choices_are_all.Goals as goal

pub returns : goal.returns
returns c = λ two whole p s. (choices_once two whole p s, λ choice. choices_are two whole p s choice)
