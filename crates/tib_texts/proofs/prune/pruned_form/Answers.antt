use Rattle.std.proofs.Common.{ℕ, subst}
use Rattle.tib_grammar.specs.GrammarOf.{GrammarOf}
use Rattle.tib_prune.specs.Pruned.{IsPruned, KeepsCheapTrees, StandInCheapRuns}
use Rattle.tib_operations.proofs.BestRuns.{keeps_over}
use Rattle.tib_operations.proofs.OfPrune.{kept_printable}
use Rattle.tib_texts.proofs.prune.pruned_form.Goals as goal

pub returns-in-Ok-prune_by_insides-clause-kept : goal.returns-in-Ok-prune_by_insides-clause-kept
returns-in-Ok-prune_by_insides-clause-kept g c = record {
  form = c.in-Ok.costed.0;
  is_form = c.in-Ok.ensures.form;
  pruned = subst (λ (b : ℕ). IsPruned g.S.Semiring.product b c.in-Ok.costed.0 c.in-Ok-prune_by_insides.kept) c.beam_cost.ensures c.in-Ok-prune_by_insides.ensures.pruned;
}

pub returns-in-Ok-prune_by_insides-clause-keeps : goal.returns-in-Ok-prune_by_insides-clause-keeps
returns-in-Ok-prune_by_insides-clause-keeps g c =
    let form : GrammarOf = c.in-Ok.costed.0 in
    let kept : GrammarOf = c.in-Ok-prune_by_insides.kept in
    keeps_over g.S.Semiring.product c.args.grammar.now.rules form.rules c.args.beam kept.rules c.in-Ok.ensures.series
    (subst (λ (b : ℕ). KeepsCheapTrees g.S.Semiring.product form.rules b kept.rules) c.beam_cost.ensures c.in-Ok-prune_by_insides.ensures.cheap) c.in-Ok-prune_by_insides.ensures.costs
    (subst (λ (b : ℕ). StandInCheapRuns g.S.Semiring.product form.rules b kept.rules) c.beam_cost.ensures c.in-Ok-prune_by_insides.ensures.runs)

pub returns-in-Ok-prune_by_insides-clause-printable : goal.returns-in-Ok-prune_by_insides-clause-printable
returns-in-Ok-prune_by_insides-clause-printable g c labels plain =
    kept_printable g.S.Semiring.SCALE labels g.S.Semiring.product c.beam_cost.result c.in-Ok.costed.0 c.in-Ok-prune_by_insides.kept c.in-Ok-prune_by_insides.ensures.pruned (c.in-Ok.ensures.printable labels plain)
