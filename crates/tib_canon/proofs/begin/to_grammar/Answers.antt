use Rattle.std.proofs.Common.{◌+◌, length, arith, sym, subst, ◌∙◌, IfOk}
use Rattle.std.specs.Option.{option_cmp}
use Rattle.tib_canon.specs.Canonical.{names_of, OverStates, IsCanonical}
use Rattle.tib_canon.specs.Keys.{IsCanonicalOverKeys, behind_fresh, started_rules}
use Rattle.tib_canon.specs.declared.begin.Begin.TheVariants.{At, Fresh, Empty}
use Rattle.tib_canon.proofs.KeysCanonical.{at_key, at_fresh, at_none}
use Rattle.tib_canon.proofs.KeysOnce.{leaves_over}
use Rattle.tib_canon.proofs.One.{if_both}
use Rattle.tib_canon.proofs.OverKeys.{labelled_begun}
use Rattle.tib_canon.proofs.Started.{started_leaves}
use Rattle.tib_grammar.specs.Series.{HasSameSeries}
use Rattle.tib_canon.proofs.begin.to_grammar.Goals as goal

pub canonical_of_rules-requires-clause-leaves : goal.canonical_of_rules-requires-clause-leaves
canonical_of_rules-requires-clause-leaves g c =
    leaves_over g.K.Ord.cmp c.args.found.order.items c.in-At.start c.args.found.rules.items (record { names = names_of (length c.args.found.order.items); rules = c.in_ok-rules-in-At.rules.items }) c.in_ok-rules-in-At.ensures c.requires.leaves

pub canonical_of_rules-requires-clause-labelled : goal.canonical_of_rules-requires-clause-labelled
canonical_of_rules-requires-clause-labelled g c =
    labelled_begun g.K.Ord.cmp c.args.found.order.items c.args.found.rules.items (At c.in-At.start) (record { names = names_of (length c.args.found.order.items); rules = c.in_ok-rules-in-At.rules.items }) (length c.args.labels.now) c.in_ok-rules-in-At.ensures
    c.requires.labelled

pub returns-in_ok-rules-in-At-clause-canonical : goal.returns-in_ok-rules-in-At-clause-canonical
returns-in_ok-rules-in-At-clause-canonical g c =
    subst (λ b. IfOk c.canonical_of_rules.result (λ h. IsCanonicalOverKeys g.S.Semiring.product g.S.Semiring.SCALE c.args.labels.now g.K.Ord.cmp c.args.found.order.items c.args.found.rules.items b h.grammar)) (sym c.in-At.is)
    (if_both (λ h. OverStates c.len-states.result c.in_ok-rules-in-At.rules.items (λ k. IsCanonical g.S.Semiring.product g.S.Semiring.SCALE c.args.labels.now k h.grammar))
    (λ h. OverStates c.len-states.result c.in_ok-rules-in-At.rules.items (λ k. HasSameSeries g.S.Semiring.product k h.grammar))
    (λ h. IsCanonicalOverKeys g.S.Semiring.product g.S.Semiring.SCALE c.args.labels.now g.K.Ord.cmp c.args.found.order.items c.args.found.rules.items (At c.in-At.start) h.grammar) c.canonical_of_rules.result
    (λ h o s.
    at_key g.S.Semiring.product g.S.Semiring.SCALE c.args.labels.now g.K.Ord.cmp c.args.found.order.items c.args.found.rules.items h.grammar c.in-At.start c.len-states.result c.in_ok-rules-in-At.rules.items c.in_ok-rules-in-At.ensures
    (c.len-states.ensures ∙ c.args.found.order.ok.0) o s) c.canonical_of_rules.ensures.canonical c.canonical_of_rules.ensures.series)

pub returns-in-Empty-clause-canonical : goal.returns-in-Empty-clause-canonical
returns-in-Empty-clause-canonical g c =
    subst (λ b. IfOk c.canonical_of_rules-in-Empty.result (λ h. IsCanonicalOverKeys g.S.Semiring.product g.S.Semiring.SCALE c.args.labels.now g.K.Ord.cmp c.args.found.order.items c.args.found.rules.items b h.grammar)) (sym c.in-Empty.is)
    (if_both (λ h. OverStates 1 c.new.result.items (λ k. IsCanonical g.S.Semiring.product g.S.Semiring.SCALE c.args.labels.now k h.grammar)) (λ h. OverStates 1 c.new.result.items (λ k. HasSameSeries g.S.Semiring.product k h.grammar))
    (λ h. IsCanonicalOverKeys g.S.Semiring.product g.S.Semiring.SCALE c.args.labels.now g.K.Ord.cmp c.args.found.order.items c.args.found.rules.items Empty h.grammar) c.canonical_of_rules-in-Empty.result
    (λ h o s. at_none g.S.Semiring.product g.S.Semiring.SCALE c.args.labels.now g.K.Ord.cmp c.args.found.order.items c.args.found.rules.items h.grammar c.new.result.items c.new.ensures.items o s) c.canonical_of_rules-in-Empty.ensures.canonical
    c.canonical_of_rules-in-Empty.ensures.series)

pub canonical_of_rules-requires-in-Fresh-clause-leaves : goal.canonical_of_rules-requires-in-Fresh-clause-leaves
canonical_of_rules-requires-in-Fresh-clause-leaves g c =
    leaves_over (option_cmp g.K.Ord.cmp) (behind_fresh c.args.found.order.items) 0 (started_rules c.in-Fresh.finals c.args.found.rules.items)
    (record { names = names_of (length (behind_fresh c.args.found.order.items)); rules = c.in_ok-rules-in-Fresh.rules.items }) c.in_ok-rules-in-Fresh.ensures (started_leaves c.in-Fresh.finals c.args.found.rules.items c.requires.leaves)

pub canonical_of_rules-requires-in-Fresh-clause-labelled : goal.canonical_of_rules-requires-in-Fresh-clause-labelled
canonical_of_rules-requires-in-Fresh-clause-labelled g c =
    labelled_begun g.K.Ord.cmp c.args.found.order.items c.args.found.rules.items (Fresh c.in-Fresh.finals) (record { names = names_of (length (behind_fresh c.args.found.order.items)); rules = c.in_ok-rules-in-Fresh.rules.items })
    (length c.args.labels.now) c.in_ok-rules-in-Fresh.ensures c.requires.labelled

pub returns-in_ok-rules-in-Fresh-clause-canonical : goal.returns-in_ok-rules-in-Fresh-clause-canonical
returns-in_ok-rules-in-Fresh-clause-canonical g c =
    subst (λ b. IfOk c.canonical_of_rules-in-Fresh.result (λ h. IsCanonicalOverKeys g.S.Semiring.product g.S.Semiring.SCALE c.args.labels.now g.K.Ord.cmp c.args.found.order.items c.args.found.rules.items b h.grammar)) (sym c.in-Fresh.is)
    (if_both (λ h. OverStates (c.len.result + 1) c.in_ok-rules-in-Fresh.rules.items (λ k. IsCanonical g.S.Semiring.product g.S.Semiring.SCALE c.args.labels.now k h.grammar))
    (λ h. OverStates (c.len.result + 1) c.in_ok-rules-in-Fresh.rules.items (λ k. HasSameSeries g.S.Semiring.product k h.grammar))
    (λ h. IsCanonicalOverKeys g.S.Semiring.product g.S.Semiring.SCALE c.args.labels.now g.K.Ord.cmp c.args.found.order.items c.args.found.rules.items (Fresh c.in-Fresh.finals) h.grammar) c.canonical_of_rules-in-Fresh.result
    (λ h o s.
    at_fresh g.S.Semiring.product g.S.Semiring.SCALE c.args.labels.now g.K.Ord.cmp c.args.found.order.items c.args.found.rules.items h.grammar c.in-Fresh.finals (c.len.result + 1) c.in_ok-rules-in-Fresh.rules.items
    c.in_ok-rules-in-Fresh.ensures (omega (arith, c.len.ensures, c.args.found.order.ok.0)) o s) c.canonical_of_rules-in-Fresh.ensures.canonical c.canonical_of_rules-in-Fresh.ensures.series)
