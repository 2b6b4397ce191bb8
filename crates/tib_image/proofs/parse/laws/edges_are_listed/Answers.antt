use Rattle.tib_image.proofs.parse.laws.edges_are_listed.Goals as goal
use Rattle.tib_image.proofs.EdgesListed.{edges_are_listed}

pub returns : goal.returns
returns c moves string key = edges_are_listed moves string key
