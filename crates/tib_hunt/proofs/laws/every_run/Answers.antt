use Rattle.std.proofs.Common.{◌-◌, length}
use Rattle.tib_expand.specs.Expanded.{IsEndAt}
use Rattle.tib_hunt.specs.RoundLaw.{IsLackedAt}
use Rattle.tib_hunt.proofs.Runs.{every_run}
use Rattle.tib_hunt.proofs.laws.every_run.Goals as goal

pub returns-clause-lacked : goal.returns-clause-lacked
returns-clause-lacked g c =
    let r = c.args.round.now in
    every_run g.E.Key.PartialEq.eq (λ x y e. g.met.E.Key.TableKey.same x y e) g.met.E.Key.Eq.laws.refl g.E.Key.TableKey.shelf_of (λ x. g.met.E.Key.TableKey.low x) r.first (length r.order.now - r.first) ((g.E.Expand.hunted r.problem.now).edge r.order.now) (IsLackedAt (g.E.Expand.hunted r.problem.now) r.order.now)

pub returns-clause-all : goal.returns-clause-all
returns-clause-all g c =
    let r = c.args.round.now in
    every_run g.E.Key.PartialEq.eq (λ x y e. g.met.E.Key.TableKey.same x y e) g.met.E.Key.Eq.laws.refl g.E.Key.TableKey.shelf_of (λ x. g.met.E.Key.TableKey.low x) r.first (length r.order.now - r.first) ((g.E.Expand.hunted r.problem.now).edge r.order.now) (IsEndAt (g.E.Expand.hunted r.problem.now) r.order.now)
