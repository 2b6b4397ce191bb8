use Rattle.tib_transducer.proofs.Covering.{same_series, covers_members}
use Rattle.tib_transducer.proofs.laws.order_is_free.Goals as goal

pub returns : goal.returns
returns g c = λ one two same.
    same_series g.met.S.Semiring.laws one two (covers_members one two (λ r. (same r).0)) (covers_members two one (λ r. (same r).1))
