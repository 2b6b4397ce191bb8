use Rattle.tib_intersect.proofs.Intersecting.{pairs_mean}
use Rattle.tib_intersect.proofs.laws.pairs_mean.Goals as goal

pub returns : goal.returns
returns g c = λ one two n m order rules found t a b v x y. pairs_mean g.met.S.Semiring.laws one two n m order rules found t a b v x y
