use Rattle.tib_key_edges.proofs.Flattened.{translates_in_preorder}
use Rattle.tib_key_edges.proofs.composition.translates_in_preorder.Goals as goal

pub returns : goal.returns
returns c = λ two p f n kids below h t. translates_in_preorder two p f n kids below h t
