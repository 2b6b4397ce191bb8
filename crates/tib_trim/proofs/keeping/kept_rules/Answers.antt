use Rattle.std.proofs.lemmas.Result.{IfOk-weaker}
use Rattle.tib_trim.proofs.CompleteRules.{same_outsides, are_kept, kept_series, kept_runs, kept_closed, kept_few, kept_range}
use Rattle.tib_trim.proofs.keeping.kept_rules.Goals as goal

pub returns-clause-kept : goal.returns-clause-kept
returns-clause-kept g c =
    IfOk-weaker c.filter_rules.result _ _
    (λ k f. are_kept g.met.S.Semiring.laws c.args.rules.items c.args.insides.now c.deref-2.result.now c.requires.insides (same_outsides g.S.Semiring.product c.args.rules.items c.deref.result.now c.in_ok-outsides.outsides.items c.deref-2.result.now c.deref.ensures.value c.deref-2.ensures.value c.in_ok-outsides.ensures.outsides) k.rules.items k.costs.items f)
    c.filter_rules.ensures

pub returns-clause-series : goal.returns-clause-series
returns-clause-series g c =
    IfOk-weaker c.filter_rules.result _ _
    (λ k f. kept_series g.met.S.Semiring.laws c.args.rules.items c.args.insides.now c.deref-2.result.now c.requires.insides (same_outsides g.S.Semiring.product c.args.rules.items c.deref.result.now c.in_ok-outsides.outsides.items c.deref-2.result.now c.deref.ensures.value c.deref-2.ensures.value c.in_ok-outsides.ensures.outsides) k.rules.items k.costs.items f)
    c.filter_rules.ensures

pub returns-clause-runs : goal.returns-clause-runs
returns-clause-runs g c =
    IfOk-weaker c.filter_rules.result _ _
    (λ k f. kept_runs g.met.S.Semiring.laws c.args.rules.items c.args.insides.now c.deref-2.result.now c.requires.insides (same_outsides g.S.Semiring.product c.args.rules.items c.deref.result.now c.in_ok-outsides.outsides.items c.deref-2.result.now c.deref.ensures.value c.deref-2.ensures.value c.in_ok-outsides.ensures.outsides) k.rules.items k.costs.items f)
    c.filter_rules.ensures

pub returns-clause-closed : goal.returns-clause-closed
returns-clause-closed g c =
    IfOk-weaker c.filter_rules.result _ _
    (λ k f. kept_closed g.met.S.Semiring.laws c.args.rules.items c.args.insides.now c.deref-2.result.now c.requires.insides (same_outsides g.S.Semiring.product c.args.rules.items c.deref.result.now c.in_ok-outsides.outsides.items c.deref-2.result.now c.deref.ensures.value c.deref-2.ensures.value c.in_ok-outsides.ensures.outsides) k.rules.items k.costs.items f)
    c.filter_rules.ensures

pub returns-clause-few : goal.returns-clause-few
returns-clause-few g c =
    IfOk-weaker c.filter_rules.result _ _
    (λ k f. kept_few g.met.S.Semiring.laws c.args.rules.items c.args.insides.now c.deref-2.result.now c.requires.insides (same_outsides g.S.Semiring.product c.args.rules.items c.deref.result.now c.in_ok-outsides.outsides.items c.deref-2.result.now c.deref.ensures.value c.deref-2.ensures.value c.in_ok-outsides.ensures.outsides) k.rules.items k.costs.items f)
    c.filter_rules.ensures

pub returns-clause-range : goal.returns-clause-range
returns-clause-range g c =
    IfOk-weaker c.filter_rules.result _ _
    (λ k f. kept_range g.met.S.Semiring.laws c.args.rules.items c.args.insides.now c.deref-2.result.now c.requires.insides (same_outsides g.S.Semiring.product c.args.rules.items c.deref.result.now c.in_ok-outsides.outsides.items c.deref-2.result.now c.deref.ensures.value c.deref-2.ensures.value c.in_ok-outsides.ensures.outsides) k.rules.items k.costs.items f _ c.requires.range)
    c.filter_rules.ensures
