use Rattle.std.proofs.Common.{arith, ◌∙◌, ap, length}
use Rattle.std.specs.Prelude.{None}
use Rattle.std.proofs.lemmas.List.{get_or_read}
use Rattle.tib_cost.specs.Least.{times}
use Rattle.tib_inside.specs.Settling.{costs_in}
use Rattle.tib_trim.proofs.ToldItems.{goes_on_label, goes_on_hole, some_rest, state_below}
use Rattle.tib_trim.proofs.telling.tell_item.Goals as goal

pub returns-in-Label : goal.returns-in-Label
returns-in-Label g c = λ qs e.
    goes_on_label g.S.Semiring.product (costs_in c.args.insides.now) (costs_in c.args.outsides.now) c.args.item.now c.args.front qs c.in-Label.label c.in-Label.rank c.args.rests.now.items c.args.agenda.now c.in-Label.is e

pub unreachable-requires : goal.unreachable-requires
unreachable-requires g c =
    some_rest g.S.Semiring.product (costs_in c.args.insides.now) c.args.item.now c.in-Hole.state c.requires.rests.0 c.args.rests.now.items c.in-Hole.is c.requires.rests.1 (omega (arith, c.in_default.ensures.cases.0, c.args.rests.now.ok.0))

pub offer-requires : goal.offer-requires
offer-requires g c = state_below (length c.args.outsides.now) c.args.item.now c.in-Hole.state c.in-Hole.is c.requires.outsides

pub bounds-insides-state : goal.bounds-insides-state
bounds-insides-state g c = state_below (length c.args.insides.now) c.args.item.now c.in-Hole.state c.in-Hole.is c.requires.insides

pub returns-in_ok-offer-in-Hole : goal.returns-in_ok-offer-in-Hole
returns-in_ok-offer-in-Hole g c = λ qs e.
    goes_on_hole g.S.Semiring.product (costs_in c.args.insides.now) (costs_in c.args.outsides.now) c.args.item.now c.args.front qs c.in-Hole.state c.in-Some.rest c.times.result c.times-in-Hole.result c.args.rests.now.items c.pop.new.self.items
    c.args.agenda.now c.offer.new.agenda c.in-Hole.is c.in-Some.ensures.items e c.times.ensures
    (c.times-in-Hole.ensures ∙ ap (times g.S.Semiring.product c.args.front) (get_or_read c.args.insides.now c.in-Hole.state c.index-insides-state.result (state_below (length c.args.insides.now) c.args.item.now c.in-Hole.state c.in-Hole.is c.requires.insides) c.index-insides-state.is None))
    c.in_ok-offer-in-Hole.ensures
