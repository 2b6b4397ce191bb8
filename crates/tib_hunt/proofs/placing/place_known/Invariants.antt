use Rattle.std.proofs.Common.{map, drop}
use Rattle.tib_hunt.specs.Known.{positions_at}
use Rattle.tib_hunt.specs.Numbered.{moved_to}
use Rattle.tib_hunt.proofs.KnownPlaces.{KnownSoFar}
use Rattle.tib_hunt.proofs.placing.place_known.Given as goal

abbrev pub invariant-loop-end : goal.invariant-loop-end
invariant-loop-end l = KnownSoFar (map (λ v. v.items) l.positions) l.first l.moved (drop l.end-index l.at) (drop l.next l.numbers) l.placed.items (map (moved_to l.first l.moved) (positions_at (map (λ v. v.items) l.positions) l.at l.numbers))
