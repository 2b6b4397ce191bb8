use Rattle.std.proofs.Common.{length, ◌∙◌, arith, subst, sym}
use Rattle.tib_grammar.specs.Range.{AreInRange}
use Rattle.tib_grammar_file.specs.Printed.{AreLabelled}
use Rattle.tib_canon.specs.Canonical.{OverStates, IsCanonical}
use Rattle.tib_canon.proofs.One.{if_ok}
use Rattle.tib_canon.proofs.OfRules.{leaves_kept, labels_kept, is_canonical, has_series, labels_still}
use Rattle.tib_grammar.specs.Series.{HasSameSeries}
use Rattle.tib_canon.proofs.form.canonical_of_rules.Goals as goal

pub overflow_cast-len : goal.overflow_cast-len
overflow_cast-len g c = omega (arith, c.in_ok-trimmed.ensures.states.few, c.len.ensures, c.in_ok-trimmed.trimmed.states.ok.0)

pub in_order-requires-clause-some : goal.in_order-requires-clause-some
in_order-requires-clause-some g c = omega (arith, c.in_ok-trimmed.ensures.states.some, c.len.ensures, c.in_ok-trimmed.trimmed.states.ok.0)

pub in_order-requires-clause-few : goal.in_order-requires-clause-few
in_order-requires-clause-few g c = omega (arith, c.in_ok-trimmed.ensures.few, c.requires.few)

pub in_order-requires-clause-range : goal.in_order-requires-clause-range
in_order-requires-clause-range g c = subst (λ n. AreInRange n c.in_ok-trimmed.trimmed.rules.items) (sym (c.len.ensures ∙ c.in_ok-trimmed.trimmed.states.ok.0)) c.in_ok-trimmed.ensures.range

pub in_order-requires-clause-leaves : goal.in_order-requires-clause-leaves
in_order-requires-clause-leaves g c = leaves_kept g.S.Semiring.product c.args.states c.args.rules.items c.in_ok-trimmed.trimmed.states.items c.in_ok-trimmed.trimmed.rules.items c.in_ok-trimmed.ensures.trimmed c.requires.leaves

pub in_order-requires-clause-labelled : goal.in_order-requires-clause-labelled
in_order-requires-clause-labelled g c = labels_kept g.S.Semiring.product c.args.states c.args.rules.items c.in_ok-trimmed.trimmed.states.items c.in_ok-trimmed.trimmed.rules.items c.in_ok-trimmed.ensures.trimmed (length c.args.labels.now) c.requires.labelled

pub returns-clause-canonical : goal.returns-clause-canonical
returns-clause-canonical g c =
    if_ok _ (λ h. OverStates c.args.states c.args.rules.items (λ k. IsCanonical g.S.Semiring.product g.S.Semiring.SCALE c.args.labels.now k h.grammar)) c.in_order.result
    (λ h o. is_canonical g.S.Semiring.product c.args.states c.args.rules.items c.in_ok-trimmed.trimmed.states.items c.in_ok-trimmed.trimmed.rules.items c.in_ok-trimmed.ensures.trimmed g.S.Semiring.SCALE c.args.labels.now c.len.result (c.len.ensures ∙ c.in_ok-trimmed.trimmed.states.ok.0) h.grammar o) c.in_order.ensures.in_order

pub returns-clause-series : goal.returns-clause-series
returns-clause-series g c =
    if_ok _ (λ h. OverStates c.args.states c.args.rules.items (λ k. HasSameSeries g.S.Semiring.product k h.grammar)) c.in_order.result
    (λ h o. has_series g.S.Semiring.product c.args.states c.args.rules.items c.in_ok-trimmed.trimmed.states.items c.in_ok-trimmed.trimmed.rules.items c.in_ok-trimmed.ensures.trimmed g.S.Semiring.SCALE c.args.labels.now c.len.result (c.len.ensures ∙ c.in_ok-trimmed.trimmed.states.ok.0) h.grammar o g.met.S.Semiring.laws c.in_ok-trimmed.ensures.series) c.in_order.ensures.in_order

pub returns-clause-labelled : goal.returns-clause-labelled
returns-clause-labelled g c =
    if_ok _ (λ h. AreLabelled (length c.args.labels.now) h.grammar.rules) c.in_order.result
    (λ h o. labels_still g.S.Semiring.product c.args.states c.args.rules.items c.in_ok-trimmed.trimmed.states.items c.in_ok-trimmed.trimmed.rules.items c.in_ok-trimmed.ensures.trimmed g.S.Semiring.SCALE c.args.labels.now c.len.result (c.len.ensures ∙ c.in_ok-trimmed.trimmed.states.ok.0) h.grammar o (length c.args.labels.now) c.requires.labelled) c.in_order.ensures.in_order
