use Rattle.tib_key_edges.proofs.Pieces.{goes_by_pieces}
use Rattle.tib_key_edges.proofs.composition.search_goes_by_pieces.Goals as goal

pub returns : goal.returns
returns g c = λ two shaped leaves. goes_by_pieces g.met.S.Semiring.laws two shaped leaves
