use Rattle.std.proofs.Common.{ℕ, List, take}
use Rattle.tib_lex.specs.Lists.{Has}
use Rattle.tib_compose.specs.Bounding.{BoundsReader}
use Rattle.tib_compose.proofs.composite.Composite.label_bound.Given as goal

abbrev pub invariant-loop-position : goal.invariant-loop-position
invariant-loop-position g l =
    (m : ℕ) → Has (take l.position-index l.position-items) m → BoundsReader g.S.Semiring.product l.self.second.now.rules l.source l.reading.node m l.least
