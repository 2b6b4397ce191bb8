use Rattle.tib_image.proofs.parse.laws.parse_is_reached.Goals as goal
use Rattle.tib_image.proofs.ReachedParses.{reached_grammar}

pub returns : goal.returns
returns c moves string order rules range reached = reached_grammar moves string order rules range reached
