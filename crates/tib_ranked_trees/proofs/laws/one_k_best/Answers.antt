use Rattle.tib_ranked_trees.proofs.laws.one_k_best.Goals as goal
use Rattle.tib_ranked_trees.proofs.Ranks.{one_k_best}

pub returns : goal.returns
returns g c labels d rules l k xs ys h i = one_k_best labels d g.S.Semiring.product rules l k xs ys h i
