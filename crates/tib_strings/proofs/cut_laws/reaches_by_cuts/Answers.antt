use Rattle.tib_strings.proofs.cut_laws.reaches_by_cuts.Goals as goal
use Rattle.tib_strings.proofs.Reaching.{reaches_cut, cut_reaches}

pub returns : goal.returns
returns c string ws i j = (reaches_cut string ws i j, cut_reaches string ws i j)
