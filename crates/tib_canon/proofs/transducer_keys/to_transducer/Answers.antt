use Rattle.std.proofs.Common.{◌≡◌, ◌∙◌, sym, subst, length, arith}
use Rattle.std.proofs.lemmas.Result.{IfOk-weaker}
use Rattle.tib_canon.specs.TransducerKeys.{AreMovesOver}
use Rattle.tib_canon.specs.Ordered.{over_numbers}
use Rattle.tib_canon.proofs.TransducerOverKeys.{moves_over, canonical_of, many_rules, canonical_series, canonical_labelled}
use Rattle.tib_canon.proofs.transducer_keys.to_transducer.Goals as goal

pub in_order-requires-clause-few : goal.in_order-requires-clause-few
in_order-requires-clause-few g c =
    let long : c.len-states.result ≡ length c.args.found.order.items = c.len-states.ensures ∙ c.args.found.order.ok.0 in
    let many = many_rules g.K.Ord.cmp g.S.Semiring.SCALE c.args.labels.now c.args.found.order.items c.args.start c.args.found.rules.items c.in_ok-rules.rules.items c.len-states.result c.in_ok-rules.ensures long in
    omega (arith, many, c.requires.few_rules)

pub in_order-requires-clause-moves : goal.in_order-requires-clause-moves
in_order-requires-clause-moves g c =
    subst (λ n. AreMovesOver g.S.Semiring.SCALE c.args.labels.now n c.in_ok-rules.rules.items) (sym (c.len-states.ensures ∙ c.args.found.order.ok.0))
    (moves_over g.K.Ord.cmp c.args.found.order.items c.args.start c.args.found.rules.items (over_numbers (length c.args.found.order.items) c.in_ok-rules.rules.items) c.in_ok-rules.ensures g.S.Semiring.SCALE c.args.labels.now c.requires.moves)

pub returns-clause-canonical : goal.returns-clause-canonical
returns-clause-canonical g c =
    IfOk-weaker c.in_order.result _ _
    (λ h i. canonical_of g.K.Ord.cmp g.S.Semiring.SCALE c.args.labels.now c.args.found.order.items c.args.start c.args.found.rules.items c.in_ok-rules.rules.items c.len-states.result c.in_ok-rules.ensures
    (c.len-states.ensures ∙ c.args.found.order.ok.0) h.transducer i) c.in_order.ensures.in_order

pub returns-clause-series : goal.returns-clause-series
returns-clause-series g c =
    IfOk-weaker c.in_order.result _ _
    (λ h i. canonical_series g.met.S.Semiring.laws g.K.Ord.cmp g.S.Semiring.SCALE c.args.labels.now c.args.found.order.items c.args.found.rules.items c.args.start h.transducer
    (canonical_of g.K.Ord.cmp g.S.Semiring.SCALE c.args.labels.now c.args.found.order.items c.args.start c.args.found.rules.items c.in_ok-rules.rules.items c.len-states.result c.in_ok-rules.ensures
    (c.len-states.ensures ∙ c.args.found.order.ok.0) h.transducer i)) c.in_order.ensures.in_order

pub returns-clause-labelled : goal.returns-clause-labelled
returns-clause-labelled g c =
    IfOk-weaker c.in_order.result _ _
    (λ h i. canonical_labelled g.K.Ord.cmp g.S.Semiring.SCALE c.args.labels.now c.args.found.order.items c.args.found.rules.items c.args.start h.transducer c.requires.moves
    (canonical_of g.K.Ord.cmp g.S.Semiring.SCALE c.args.labels.now c.args.found.order.items c.args.start c.args.found.rules.items c.in_ok-rules.rules.items c.len-states.result c.in_ok-rules.ensures
    (c.len-states.ensures ∙ c.args.found.order.ok.0) h.transducer i)) c.in_order.ensures.in_order
