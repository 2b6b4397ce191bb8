use Rattle.std.proofs.Common.{◌≡◌, ◌++◌, drop}
use Rattle.tib_match.specs.Leading.{partial_of, partials_of, all_placed}
use Rattle.tib_match.proofs.partial.add_all_placed.Given as goal

abbrev pub invariant-loop-position : goal.invariant-loop-position
invariant-loop-position g l =
    partials_of l.found.items ++ all_placed g.S.Semiring.product l.rules (partial_of l.partial) (drop l.position-index l.positions)
    ≡ partials_of l.fn.found.items ++ all_placed g.S.Semiring.product l.rules (partial_of l.partial) l.positions
