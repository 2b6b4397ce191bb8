use Rattle.tib_determinize.proofs.Walking.{are_matched}
use Rattle.tib_determinize.proofs.laws.walk_finds_matches.Goals as goal

pub returns : goal.returns
returns c = λ rules order n shapes s. are_matched order n rules shapes s
