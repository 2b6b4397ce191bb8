use Rattle.tib_determinize.proofs.Walking.{are_matched_by_first}
use Rattle.tib_determinize.proofs.laws.first_places_find_matches.Goals as goal

pub returns : goal.returns
returns c = λ rules order n shapes s. are_matched_by_first order n rules shapes s
