use Rattle.std.specs.Prelude.{◌+◌}
use Rattle.tib_grammar.specs.Series.{IsSeries}
use Rattle.tib_example.proofs.Pairwise.{follows}
use Rattle.tib_example.proofs.weighed.Goals as goal

pub returns-in-Ok-weigh_all-clause-costs : goal.returns-in-Ok-weigh_all-clause-costs
returns-in-Ok-weigh_all-clause-costs g c =
    follows (λ t v. IsSeries ◌+◌ c.in-Ok.normal.rules t v) (λ t v. IsSeries ◌+◌ c.args.grammar.now.rules t v) c.args.trees.now c.in-Ok-weigh_all.costs.items
    (λ t v s. (c.in-Ok.ensures.series 0 c.is_sound.ensures.start t v).1 s) c.in-Ok-weigh_all.ensures
