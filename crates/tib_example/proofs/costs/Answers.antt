use Rattle.std.specs.Prelude.{◌+◌}
use Rattle.std.specs.List.{AllZip}
use Rattle.std.proofs.Common.{subst}
use Rattle.std.proofs.lemmas.Result.{IfErr-weaker, IfOk-weaker}
use Rattle.tib_grammar.specs.Series.{IsSeries}
use Rattle.tib_example.specs.Costs.{AreCosts, IsFailure, IsUnweighed}
use Rattle.tib_example.proofs.Failing.{of_weighing}
use Rattle.tib_example.proofs.costs.Goals as goal

pub returns-clause-costs : goal.returns-clause-costs
returns-clause-costs g c =
    IfOk-weaker c.weighed.result (λ costs. AllZip (λ t v. IsSeries ◌+◌ c.in-Ok.grammar.rules t v) c.deref.result.now costs.items) (λ costs. AreCosts c.args.grammar.now c.args.trees.now costs.items)
    (λ costs zip. record {
      early = c.read_grammar.new.labels;
      labels = c.read_trees.new.labels;
      value = c.in-Ok.grammar;
      listed = c.in-Ok-read_trees.trees.items;
      grows = c.read_trees.ensures.grows;
      reads = c.in-Ok.ensures.text;
      text = c.in-Ok-read_trees.ensures.trees.0;
      series = subst (λ ts. AllZip (λ t v. IsSeries ◌+◌ c.in-Ok.grammar.rules t v) ts costs.items) c.deref.ensures.value zip;
    })
    c.weighed.ensures.costs

pub returns-clause-failure : goal.returns-clause-failure
returns-clause-failure g c =
    IfErr-weaker c.weighed.result (IsUnweighed c.in-Ok.grammar) (IsFailure c.args.grammar.now c.args.trees.now)
    (λ failure h. of_weighing c.read_grammar.new.labels c.args.grammar.now c.args.trees.now c.in-Ok.grammar c.in-Ok.ensures.text failure h) c.weighed.ensures.failure
