use Rattle.tib_canon.proofs.CanonicalByText.{one_canonical_text}
use Rattle.tib_canon.proofs.laws.canonical_text_is_one.Goals as goal

pub returns : goal.returns
returns g c = one_canonical_text g.S.Semiring.product
