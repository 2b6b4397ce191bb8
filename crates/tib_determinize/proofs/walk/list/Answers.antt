use Rattle.std.proofs.Common.{◌≡◌, [], sym, subst}
use Rattle.std.specs.Prelude.{IfSome, IfNone}
use Rattle.tib_determinize.specs.Vectors.{vectors_at}
use Rattle.tib_determinize.specs.Settling.{AreResiduals}
use Rattle.tib_determinize.proofs.Underway.{adds_one, adds_none, overrun_one}
use Rattle.tib_determinize.proofs.Leaves.{AreCosts, costs_are, step_of, nothing_of}
use Rattle.tib_determinize.proofs.Results.{on_ok}
use Rattle.tib_determinize.proofs.walk.list.Goals as goal

pub returns-in-Ok-Some-clause-added : goal.returns-in-Ok-Some-clause-added
returns-in-Ok-Some-clause-added g c =
    let w = c.args.walk.now in
    let all = costs_are g.S.Semiring.product g.met.S.Semiring.laws w.rules.now c.requires.normal w.order.now w.label w.rank c.args.positions.now c.args.alive.now c.requires.rank c.requires.alive in
    let costs : AreCosts g.S.Semiring.product g.met.S.Semiring.laws w.rules.now w.label (vectors_at w.order.now c.args.positions.now) c.in-Ok.costs.items = subst (AreCosts g.S.Semiring.product g.met.S.Semiring.laws w.rules.now w.label (vectors_at w.order.now c.args.positions.now)) (sym c.in-Ok.ensures) all in
    let step = step_of g.S.Semiring.product g.met.S.Semiring.laws w.rules.now w.label (vectors_at w.order.now c.args.positions.now) c.in-Ok.costs.items c.in-Ok-Some.step.cost c.in-Ok-Some.step.vector costs
    (subst (λ o. IfSome o (λ s. AreResiduals g.S.Semiring.product c.in-Ok.costs.items s.cost s.vector)) c.in-Ok-Some.field-0-is c.in-Ok-Some.ensures.some) in
    on_ok c.add.result _ _ c.add.ensures.added
    (λ a. adds_one g.S.Semiring.product w.rules.now w.order.now w.label c.args.positions.now c.in-Ok-Some.step.cost c.in-Ok-Some.step.vector c.args.listing.now c.add.new.self step a)

pub returns-in-Ok-Some-clause-more : goal.returns-in-Ok-Some-clause-more
returns-in-Ok-Some-clause-more g c = λ e.
    let w = c.args.walk.now in
    let all = costs_are g.S.Semiring.product g.met.S.Semiring.laws w.rules.now c.requires.normal w.order.now w.label w.rank c.args.positions.now c.args.alive.now c.requires.rank c.requires.alive in
    let costs : AreCosts g.S.Semiring.product g.met.S.Semiring.laws w.rules.now w.label (vectors_at w.order.now c.args.positions.now) c.in-Ok.costs.items = subst (AreCosts g.S.Semiring.product g.met.S.Semiring.laws w.rules.now w.label (vectors_at w.order.now c.args.positions.now)) (sym c.in-Ok.ensures) all in
    let step = step_of g.S.Semiring.product g.met.S.Semiring.laws w.rules.now w.label (vectors_at w.order.now c.args.positions.now) c.in-Ok.costs.items c.in-Ok-Some.step.cost c.in-Ok-Some.step.vector costs
    (subst (λ o. IfSome o (λ s. AreResiduals g.S.Semiring.product c.in-Ok.costs.items s.cost s.vector)) c.in-Ok-Some.field-0-is c.in-Ok-Some.ensures.some) in
    overrun_one g.S.Semiring.product w.rules.now w.order.now w.label c.args.positions.now c.in-Ok-Some.step.cost c.in-Ok-Some.step.vector c.args.listing.now step (c.add.ensures.more e)

pub returns-in-Ok-None-clause-added : goal.returns-in-Ok-None-clause-added
returns-in-Ok-None-clause-added g c =
    let w = c.args.walk.now in
    let all = costs_are g.S.Semiring.product g.met.S.Semiring.laws w.rules.now c.requires.normal w.order.now w.label w.rank c.args.positions.now c.args.alive.now c.requires.rank c.requires.alive in
    let costs : AreCosts g.S.Semiring.product g.met.S.Semiring.laws w.rules.now w.label (vectors_at w.order.now c.args.positions.now) c.in-Ok.costs.items = subst (AreCosts g.S.Semiring.product g.met.S.Semiring.laws w.rules.now w.label (vectors_at w.order.now c.args.positions.now)) (sym c.in-Ok.ensures) all in
    adds_none g.S.Semiring.product w.rules.now w.order.now (w.label, c.args.positions.now) c.args.listing.now
    (nothing_of g.S.Semiring.product g.met.S.Semiring.laws w.rules.now w.label (vectors_at w.order.now c.args.positions.now) c.in-Ok.costs.items costs (subst (λ o. IfNone o (c.in-Ok.costs.items ≡ [])) c.in-Ok-None.field-0-is c.in-Ok-None.ensures.none))
