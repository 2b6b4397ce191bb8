use Rattle.std.proofs.Common.{◌∷◌, [], List, drop}
use Rattle.tib_grammar.specs.Items.{pairs_of}
use Rattle.tib_match.specs.PartialMatches.{Partial, AreFound, start_from}
use Rattle.tib_match.specs.Leading.{partials_of}
use Rattle.tib_match.proofs.finding.find.Given as goal

abbrev pub invariant-loop-item : goal.invariant-loop-item
invariant-loop-item g l =
    (found : List Partial) → AreFound g.S.Semiring.product l.normal.rules (pairs_of (drop l.item-index l.items)) (partials_of l.found.items) found →
    AreFound g.S.Semiring.product l.normal.rules (pairs_of l.items) (start_from l.state ∷ []) found
