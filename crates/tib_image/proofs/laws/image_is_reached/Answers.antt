use Rattle.tib_image.proofs.laws.image_is_reached.Goals as goal
use Rattle.tib_image.proofs.Reaching.{reached_grammar}

pub returns : goal.returns
returns c moves t order rules range reached = reached_grammar moves t order rules range reached
