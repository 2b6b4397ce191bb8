use Rattle.std.proofs.Common.{take}
use Rattle.std.specs.Prelude.{IfSome}
use Rattle.tib_grammar.specs.Items.{pairs_of}
use Rattle.tib_compose.specs.PieceViews.{kids_there}
use Rattle.tib_compose.specs.Plenties.{RulesAdd}
use Rattle.tib_compose.specs.Sources.{IsSource}
use Rattle.tib_compose.specs.Walk.{AreReady}
use Rattle.tib_compose.proofs.composite.Composite.label_plenty.Given as goal

abbrev pub invariant-loop-position : goal.invariant-loop-position
invariant-loop-position g l =
    AreReady g.S.Semiring.product l.self.second.now.rules → IsSource g.S.Semiring.product l.self.second.now.rules l.source →
    IfSome l.total (RulesAdd g.S.Semiring.product l.self.second.now.rules (kids_there (pairs_of l.source.items.now) l.reading.node l.reading.rank) (take l.position-index l.position-items))
