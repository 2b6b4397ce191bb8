use Rattle.tib_cost.proofs.laws.residual_exists.Goals as goal

pub returns : goal.returns
returns g c = g.met.S.Semiring.laws.has_residual
