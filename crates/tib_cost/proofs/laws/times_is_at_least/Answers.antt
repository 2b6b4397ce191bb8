use Rattle.std.proofs.Common.{subst}
use Rattle.std.specs.Prelude.{◌≤◌, IfSome, Some}
use Rattle.tib_cost.proofs.Times.{times_at_least, times_commutes}
use Rattle.tib_cost.proofs.laws.times_is_at_least.Goals as goal

pub returns-clause-first : goal.returns-clause-first
returns-clause-first g c = times_at_least g.met.S.Semiring.laws

pub returns-clause-second : goal.returns-clause-second
returns-clause-second g c = λ a b.
    subst (λ v. IfSome v (λ n. b ≤ n)) (times_commutes g.met.S.Semiring.laws (Some b) (Some a)) (times_at_least g.met.S.Semiring.laws b a)
