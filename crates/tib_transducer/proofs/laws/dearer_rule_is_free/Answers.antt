use Rattle.std.proofs.Common.{◌∷◌, inr}
use Rattle.tib_transducer.proofs.Covering.{same_series, covers_members, covers_more}
use Rattle.tib_transducer.proofs.laws.dearer_rule_is_free.Goals as goal

pub returns : goal.returns
returns g c = λ rules r c.
    same_series g.met.S.Semiring.laws (r ∷ rules) rules (covers_more rules r c) (covers_members rules (r ∷ rules) (λ s. inr))
