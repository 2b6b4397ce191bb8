use Rattle.std.specs.Prelude.{length}
use Rattle.std.proofs.Common.{sym, subst}
use Rattle.std.proofs.lemmas.Result.{IfOk-weaker, IfErr-weaker}
use Rattle.tib_grammar.specs.Series.{IsSeries}
use Rattle.tib_operations.specs.Made.{IsMadeFault}
use Rattle.tib_operations.specs.Weigh.{weigh_makes}
use Rattle.tib_texts.proofs.FormSeries.{weights_kept}
use Rattle.tib_texts.proofs.Lines.{zip_long}
use Rattle.tib_texts.proofs.weigh.costs_of.Goals as goal

pub returns-clause-costs : goal.returns-clause-costs
returns-clause-costs g c =
    IfOk-weaker c.costs_by.result _ _ (λ costs series. zip_long (λ t v. IsSeries g.S.Semiring.product c.in-Ok.normal.rules t v) c.args.trees.now costs.items series) c.costs_by.ensures.series

pub returns-clause-weights : goal.returns-clause-weights
returns-clause-weights g c =
    IfOk-weaker c.costs_by.result _ _ (λ costs series.
    weights_kept g.S.Semiring.product (length c.args.grammar.now.names) c.args.grammar.now.rules c.in-Ok.normal.rules c.args.trees.now costs.items c.is_sound.ensures.start c.in-Ok.ensures.series series) c.costs_by.ensures.series

pub returns-clause-within : goal.returns-clause-within
returns-clause-within g c = IfOk-weaker c.costs_by.result _ _ (λ costs series. c.in-Ok.ensures.within) c.costs_by.ensures.series

pub returns-clause-err : goal.returns-clause-err
returns-clause-err g c = IfErr-weaker c.costs_by.result _ _ (λ status is. subst (IsMadeFault (weigh_makes g.S.Semiring.product c.args.limit c.args.grammar.now).more c.args.limit) (sym is) tt) c.costs_by.ensures.err
