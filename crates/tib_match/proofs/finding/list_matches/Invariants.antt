use Rattle.std.proofs.Common.{◌≡◌, ◌++◌, map}
use Rattle.std.specs.Vec.Iter.{into_iter_items}
use Rattle.tib_match.specs.MatchView.{matched}
use Rattle.tib_match.proofs.finding.list_matches.Given as goal

abbrev pub invariant-loop-partial : goal.invariant-loop-partial
invariant-loop-partial l = l.matches.items ++ map matched (into_iter_items l.partial-iterator) ≡ map matched l.fn.found.items
