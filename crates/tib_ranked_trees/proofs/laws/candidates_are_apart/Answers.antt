use Rattle.tib_ranked_trees.proofs.laws.candidates_are_apart.Goals as goal
use Rattle.tib_ranked_trees.proofs.Apart.{no_duplicates}

pub returns : goal.returns
returns g c = no_duplicates g.met.S.Semiring.laws
