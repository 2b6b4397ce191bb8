use Rattle.std.specs.Prelude.{refl}
use Rattle.std.proofs.Common.{arith}
use Rattle.tib_prune.proofs.laws.context_runs_compute.Goals as goal

pub returns-clause-first : goal.returns-clause-first
returns-clause-first c = (omega arith, refl, (refl, (omega arith, refl, tt, tt)), tt)

pub returns-clause-second : goal.returns-clause-second
returns-clause-second c = (omega arith, refl, (omega arith, refl, tt, (refl, tt)), tt)

pub returns-clause-cost : goal.returns-clause-cost
returns-clause-cost c = refl

pub returns-clause-plugged : goal.returns-clause-plugged
returns-clause-plugged c = refl

pub returns-clause-told : goal.returns-clause-told
returns-clause-told c = refl

pub returns-clause-through : goal.returns-clause-through
returns-clause-through c = refl

pub returns-clause-other : goal.returns-clause-other
returns-clause-other c = refl
