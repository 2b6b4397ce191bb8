use Rattle.tib_image.proofs.laws.one_set.Goals as goal
use Rattle.tib_image.proofs.Reaching.{one_image}

pub returns : goal.returns
returns c moves t order other edges more h k = one_image moves t order other edges more h k
