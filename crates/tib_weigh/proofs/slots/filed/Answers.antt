use Rattle.std.proofs.Common.{ℕ, List, sym, ◌∙◌, subst, get_or, set, refl, ap}
use Rattle.std.proofs.lemmas.List.{take_more}
use Rattle.tib_grammar.specs.declared.Rule.{Rule}
use Rattle.tib_weigh.specs.Buckets.{lists_of, HoldsAll}
use Rattle.tib_weigh.proofs.Places.{rule_here}
use Rattle.tib_weigh.proofs.Filing.{state_is, filed_step}
use Rattle.tib_weigh.proofs.slots.filed.Goals as goal

pub loop-position-preserved : goal.loop-position-preserved
loop-position-preserved c =
    let rules = c.args.rules.now in
    let ps = c.args.positions.now in
    let i = c.loop-position.position-index in
    let test = c.loop-position-test.true in
    let p : ℕ = get_or ps i 0 in
    let same = rule_here rules p c.index-rules-position.result (c.requires.rules i test).below c.index-rules-position.is in
    let state = state_is rules p c.args.place c.index-rules-position.result c.states_below.result.now c.state-state.result same c.states_below.ensures.states c.state-state.ensures in
    let more = filed_step rules c.args.rank c.args.place ps i c.loop-position.made.items c.args.slots c.slot_of.result
    (record { position = p; left = c.index-rules-position.result.left; state = c.state-state.result; rest = c.rest_of-rest.result; cost = c.index-rules-position.result.cost })
    c.index_mut.result.now c.push.new.self test c.requires.some (sym c.loop-position.made.ok.0 ∙ c.loop-position.invariant.many) c.slot_of.ensures refl
    (record { left = ap (λ (r : Rule ℕ). r.left) same; cost = ap (λ (r : Rule ℕ). r.cost) same; state = sym state; rest = c.rest_of-rest.ensures.over; beside = c.rest_of-rest.ensures.beside })
    c.index_mut.ensures.value c.in_ok-push.ensures.items c.loop-position.invariant.all c.loop-position.invariant.only in
    record {
      many = c.loop-position.invariant.many;
      rest = c.rest_of-rest.ensures.over;
      all = subst (λ (xs : List ℕ). HoldsAll rules c.args.place xs (lists_of (set c.loop-position.made.items c.slot_of.result c.push.new.self))) (sym (take_more ps i 0 test)) more.holds;
      only = more.only;
    }
