use Rattle.std.proofs.Common.{arith, ap, sym, subst, ◌≡◌, ◌∙◌, get_or, length, ◌+◌, ◌<◌}
use Rattle.std.proofs.lemmas.List.{get_or_read}
use Rattle.tib_grammar.specs.ShapeBuckets.{lists_of}
use Rattle.tib_grammar.proofs.Members.{has_at}
use Rattle.tib_normal.specs.Arranging.{states_of, row_at, IsArranging}
use Rattle.tib_normal.specs.Gathered.{row_parts, rule_of}
use Rattle.tib_normal.specs.Links.{IsNext, no_key}
use Rattle.tib_normal.proofs.Arranging.{state_at, states_long, arranging-start, arranging-more, arranging-all}
use Rattle.tib_normal.proofs.rows.list_state.Goals as goal

pub loop-n-init : goal.loop-n-init
loop-n-init c =
    let first_at : c.index.result.now ≡ get_or c.args.links.now.first.items c.args.state 0 =
    get_or_read c.args.links.now.first.items c.args.state c.index.result.now c.requires.below c.index.ensures 0
    in
    let next : IsNext (states_of c.args.rows.now) c.args.state 0 c.index.result.now =
    subst (λ p. IsNext (states_of c.args.rows.now) c.args.state 0 p) (sym first_at) (c.requires.links.first c.args.state c.requires.below)
    in
    record {
      within = omega (arith, next.within, states_long c.args.rows.now);
      own = λ h. sym (state_at c.args.rows.now c.index.result.now h) ∙ next.own (omega (arith, h, states_long c.args.rows.now));
      arranging = arranging-start (lists_of c.args.sides.now.table.keys) c.args.rows.now c.args.state c.index.result.now c.args.rules.now.items next c.requires.arranging;
    }

pub make_rule-requires : goal.make_rule-requires
make_rule-requires c =
    let at : c.index-rows-n.result ≡ row_at c.args.rows.now c.loop-n.n =
    get_or_read c.args.rows.now c.loop-n.n c.index-rows-n.result c.loop-n-test.true c.index-rows-n.is (record { state = 0; side = 0; cost = 0 })
    in
    let ready = c.requires.ready (row_at c.args.rows.now c.loop-n.n) (has_at c.args.rows.now c.loop-n.n (record { state = 0; side = 0; cost = 0 }) c.loop-n-test.true) in
    record {
      below = subst (λ x. x.side < length c.args.sides.now.table.keys) (sym at) ready.0;
      few = subst (λ x. row_parts (lists_of c.args.sides.now.table.keys) x < 4294967296) (sym at) ready.1;
      full = c.requires.full;
    }

pub loop-n-preserved : goal.loop-n-preserved
loop-n-preserved c =
    let at : c.index-rows-n.result ≡ row_at c.args.rows.now c.loop-n.n =
    get_or_read c.args.rows.now c.loop-n.n c.index-rows-n.result c.loop-n-test.true c.index-rows-n.is (record { state = 0; side = 0; cost = 0 })
    in
    let within : c.loop-n.n < length c.args.links.now.next.items = omega (arith, c.loop-n-test.true, c.requires.links.places_long, states_long c.args.rows.now) in
    let next_at : c.index-in-loop-n.result.now ≡ get_or c.args.links.now.next.items c.loop-n.n 0 =
    get_or_read c.args.links.now.next.items c.loop-n.n c.index-in-loop-n.result.now within c.index-in-loop-n.ensures 0
    in
    let own : get_or (states_of c.args.rows.now) c.loop-n.n no_key ≡ c.args.state = state_at c.args.rows.now c.loop-n.n c.loop-n-test.true ∙ c.loop-n.invariant.own c.loop-n-test.true in
    let next : IsNext (states_of c.args.rows.now) c.args.state (c.loop-n.n + 1) c.index-in-loop-n.result.now =
    subst (λ p. IsNext (states_of c.args.rows.now) c.args.state (c.loop-n.n + 1) p) (sym next_at)
    (subst (λ k. IsNext (states_of c.args.rows.now) k (c.loop-n.n + 1) (get_or c.args.links.now.next.items c.loop-n.n 0)) own
    (c.requires.links.next c.loop-n.n (omega (arith, c.loop-n-test.true, states_long c.args.rows.now)) (omega (arith, own, c.requires.below))))
    in
    record {
      within = omega (arith, next.within, states_long c.args.rows.now);
      own = λ h. sym (state_at c.args.rows.now c.index-in-loop-n.result.now h) ∙ next.own (omega (arith, h, states_long c.args.rows.now));
      arranging =
          subst (λ xs. IsArranging (lists_of c.args.sides.now.table.keys) c.args.rows.now c.args.state c.index-in-loop-n.result.now xs) (sym c.in_ok-push.ensures.items)
          (arranging-more (lists_of c.args.sides.now.table.keys) c.args.rows.now c.args.state c.loop-n.n c.index-in-loop-n.result.now c.loop-n.rules.items c.in_ok-make_rule.field-0 c.loop-n-test.true
          (c.loop-n.invariant.own c.loop-n-test.true) (c.in_ok-make_rule.ensures ∙ ap (rule_of (lists_of c.args.sides.now.table.keys)) at) next c.loop-n.invariant.arranging);
    }

pub returns : goal.returns
returns c =
    arranging-all (lists_of c.args.sides.now.table.keys) c.args.rows.now c.args.state c.loop-n.n c.loop-n.rules.items c.loop-n-test.false c.loop-n.invariant.within c.loop-n.invariant.arranging
