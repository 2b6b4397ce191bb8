use Rattle.tib_image.proofs.laws.image_means.Goals as goal
use Rattle.tib_image.proofs.Meaning.{image_series}

pub returns : goal.returns
returns g c moves shaped t order rules found u v = image_series moves shaped t order rules found g.S.Semiring.product u v
