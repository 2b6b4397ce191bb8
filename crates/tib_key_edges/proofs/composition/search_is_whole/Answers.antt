use Rattle.tib_key_edges.proofs.Searching.{search_goes}
use Rattle.tib_key_edges.proofs.composition.search_is_whole.Goals as goal

pub returns : goal.returns
returns g c = λ two whole. search_goes g.met.S.Semiring.laws two whole
