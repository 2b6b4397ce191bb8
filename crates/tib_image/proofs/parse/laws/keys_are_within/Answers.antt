use Rattle.tib_image.proofs.parse.laws.keys_are_within.Goals as goal
use Rattle.tib_image.proofs.KeysWithin.{keys_within}

pub returns : goal.returns
returns c states some moves within string order reached k h = keys_within states some moves within string order reached k h
