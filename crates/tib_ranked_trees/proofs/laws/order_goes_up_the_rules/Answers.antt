use Rattle.tib_ranked_trees.proofs.laws.order_goes_up_the_rules.Goals as goal
use Rattle.tib_ranked_trees.proofs.FrontsGrowing.{grows_at, child_before}

pub returns : goal.returns
returns g c = record {
  grows = λ labels r fs bs x z o h. grows_at labels g.met.S.Semiring.laws r fs bs x z o h;
  before = λ labels r zs z h. child_before labels g.met.S.Semiring.laws r zs z h;
}
