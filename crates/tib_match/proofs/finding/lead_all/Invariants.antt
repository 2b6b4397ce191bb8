use Rattle.std.proofs.Common.{◌≡◌, ◌++◌, drop}
use Rattle.tib_normal.specs.Rules.{positions_with}
use Rattle.tib_match.specs.Leading.{partials_of, all_led}
use Rattle.tib_match.proofs.finding.lead_all.Given as goal

abbrev pub invariant-loop-partial : goal.invariant-loop-partial
invariant-loop-partial g l =
    partials_of l.found.items ++ all_led g.S.Semiring.product l.normal.rules (positions_with l.label l.rank l.normal.rules) (partials_of (drop l.partial-index l.old))
    ≡ all_led g.S.Semiring.product l.normal.rules (positions_with l.label l.rank l.normal.rules) (partials_of l.old)
