use Rattle.std.specs.Prelude.{ℕ, List}
use Rattle.std.proofs.Common.{drop}
use Rattle.tib_inside.specs.Settling.{costs_in}
use Rattle.tib_prune.specs.Telling.{IsToldBy, places_of, Adds}
use Rattle.tib_prune.proofs.telling.tell.Given as goal

abbrev pub invariant-loop-rule : goal.invariant-loop-rule
invariant-loop-rule g l =
    (final : List (ℕ × ℕ)) → Adds (costs_in l.outsides) (IsToldBy g.S.Semiring.product (costs_in l.insides) l.outside (drop l.rule-index l.rules)) (places_of (drop l.rule-index l.rules)) l.agenda final →
    Adds (costs_in l.outsides) (IsToldBy g.S.Semiring.product (costs_in l.insides) l.outside l.rules) (places_of l.rules) l.initial.agenda final
