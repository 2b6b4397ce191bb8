use Rattle.tib_image.proofs.parse.laws.ends_are_keys.Goals as goal
use Rattle.tib_image.specs.KeyRanges.{ends_within}

pub returns : goal.returns
returns c states some moves within string k o e l good edge h = ends_within states some moves within string k o e l good edge h
