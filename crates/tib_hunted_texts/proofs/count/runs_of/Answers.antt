use Rattle.std.proofs.Common.{ℕ, List, sym, subst}
use Rattle.std.proofs.lemmas.Result.{IfOk-weaker}
use Rattle.tib_grammar.specs.Range.{AreInRange}
use Rattle.tib_grammar.specs.declared.Rule.{Rule}
use Rattle.tib_count.specs.Counts.{IsCountOf}
use Rattle.tib_count.specs.Counted.{IsRun, HaveRuns}
use Rattle.tib_hunted_texts.proofs.count.runs_of.Goals as goal

pub count_runs-requires-clause-range : goal.count_runs-requires-clause-range
count_runs-requires-clause-range c =
    subst (AreInRange c.states-states.result) (sym c.rule_list.ensures) (subst (λ (n : ℕ). AreInRange n c.args.grammar.now.rules) (sym c.states-states.ensures) c.is_sound.ensures.range)

pub count_runs-requires-clause-runs : goal.count_runs-requires-clause-runs
count_runs-requires-clause-runs c = subst HaveRuns (sym c.rule_list.ensures) c.requires

pub returns : goal.returns
returns c = IfOk-weaker c.count_runs.result _ _ (λ runs is. subst (λ (rules : List (Rule ℕ)). IsCountOf (IsRun rules) runs) c.rule_list.ensures is) c.count_runs.ensures
