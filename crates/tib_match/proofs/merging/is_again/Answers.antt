use Rattle.std.proofs.Common.{rules, ◌≡◌, ◌-◌, length, slice_get, Some}
use Rattle.tib_match.proofs.Kept.{again_at}
use Rattle.tib_match.proofs.merging.is_again.Goals as goal

pub returns-in-Some : goal.returns-in-Some
returns-in-Some c =
    let last : slice_get c.args.kept.now (length c.args.kept.now - 1) ≡ Some c.in-Some.last.now = search rules in
    again_at c.args.kept.now c.in-Some.last.now c.args.partial.now c.are_in_one_place.result last c.are_in_one_place.ensures.yes c.are_in_one_place.ensures.no
