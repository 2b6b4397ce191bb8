use Rattle.tib_image.proofs.parse.laws.one_parse_set.Goals as goal
use Rattle.tib_image.proofs.ReachedParses.{one_parse_set}

pub returns : goal.returns
returns c moves string order other edges more h k = one_parse_set moves string order other edges more h k
