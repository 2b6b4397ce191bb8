use Rattle.std.proofs.Common.{arith, ap, ◌∙◌, drop, map, length}
use Rattle.std.specs.Prelude.{None}
use Rattle.std.proofs.lemmas.List.{get_or_read}
use Rattle.tib_cost.specs.Least.{times}
use Rattle.tib_grammar.specs.Items.{state_in}
use Rattle.tib_inside.specs.Settling.{costs_in}
use Rattle.tib_prune.proofs.Told.{taken_back, none_left, state_here, state_below, told_next, told_last, places_left, nil_of}
use Rattle.tib_prune.proofs.telling.tell_states.Goals as goal

pub loop-rest-init : goal.loop-rest-init
loop-rest-init g c = record { within = omega arith; rests = c.requires.rests; tells = λ final h. h }

pub bounds-states-n : goal.bounds-states-n
bounds-states-n g c = places_left c.args.states.now c.loop-rest.n (taken_back g.S.Semiring.product (costs_in c.args.insides.now) (map state_in c.args.states.now) c.loop-rest.n c.in-Some.rest c.pop.new.self.items c.loop-rest.rests.items c.in-Some.ensures.items c.loop-rest.invariant.rests).within

pub offer-requires : goal.offer-requires
offer-requires g c = state_below (length c.args.outsides.now) c.args.states.now c.loop-rest.n c.state-state.result _ c.requires.outsides
    (places_left c.args.states.now c.loop-rest.n (taken_back g.S.Semiring.product (costs_in c.args.insides.now) (map state_in c.args.states.now) c.loop-rest.n c.in-Some.rest c.pop.new.self.items c.loop-rest.rests.items c.in-Some.ensures.items c.loop-rest.invariant.rests).within) c.state-state.ensures

pub bounds-insides-state : goal.bounds-insides-state
bounds-insides-state g c = state_below (length c.args.insides.now) c.args.states.now c.loop-rest.n c.state-state.result _ c.requires.insides
    (places_left c.args.states.now c.loop-rest.n (taken_back g.S.Semiring.product (costs_in c.args.insides.now) (map state_in c.args.states.now) c.loop-rest.n c.in-Some.rest c.pop.new.self.items c.loop-rest.rests.items c.in-Some.ensures.items c.loop-rest.invariant.rests).within) c.state-state.ensures

pub loop-rest-preserved : goal.loop-rest-preserved
loop-rest-preserved g c =
    let back = taken_back g.S.Semiring.product (costs_in c.args.insides.now) (map state_in c.args.states.now) c.loop-rest.n c.in-Some.rest c.pop.new.self.items c.loop-rest.rests.items c.in-Some.ensures.items c.loop-rest.invariant.rests in
    let here = places_left c.args.states.now c.loop-rest.n back.within in
    let below = state_below (length c.args.insides.now) c.args.states.now c.loop-rest.n c.state-state.result _ c.requires.insides here c.state-state.ensures in
    record {
      within = omega (arith, here);
      rests = back.rests_are;
      tells = λ final more. c.loop-rest.invariant.tells final
          (told_next (costs_in c.args.outsides.now) g.S.Semiring.product (costs_in c.args.insides.now) c.loop-rest.front c.times-front.result (map state_in c.args.states.now) c.loop-rest.n c.state-state.result c.times.result
          c.loop-rest.agenda c.offer.new.agenda final back.within (state_here c.args.states.now c.loop-rest.n c.state-state.result _ here c.state-state.ensures)
          (c.times.ensures ∙ ap (times g.S.Semiring.product c.loop-rest.front) back.rest_is)
          (c.times-front.ensures ∙ ap (times g.S.Semiring.product c.loop-rest.front) (get_or_read c.args.insides.now c.state-state.result c.index-insides-state.result below c.index-insides-state.is None))
          c.in_ok-offer.ensures more);
    }

pub returns : goal.returns
returns g c =
    let empty = nil_of c.loop-rest.rests.items (omega (arith, c.in_default.ensures.cases.0, c.loop-rest.rests.ok.0)) in
    let none = none_left g.S.Semiring.product (costs_in c.args.insides.now) (map state_in c.args.states.now) c.loop-rest.n c.loop-rest.rests.items empty c.loop-rest.invariant.rests in
    c.loop-rest.invariant.tells c.loop-rest.agenda (told_last (costs_in c.args.outsides.now) g.S.Semiring.product (costs_in c.args.insides.now) c.loop-rest.front (drop c.loop-rest.n (map state_in c.args.states.now)) c.loop-rest.agenda none)
