use Rattle.std.proofs.Common.{◌≤◌, ℕ, List, length, drop}
use Rattle.tib_grammar.specs.Items.{pairs_of}
use Rattle.tib_transducer.specs.declared.TransducerRule.{TransducerRule}
use Rattle.tib_key_edges.specs.Pieces.{pieces_of}
use Rattle.tib_compose.specs.PieceViews.{AreKnown, kids_there}
use Rattle.tib_compose.specs.Plenties.{AddsPlenty}
use Rattle.tib_compose.specs.Sources.{IsSource}
use Rattle.tib_compose.specs.Walk.{AreReady}
use Rattle.tib_compose.proofs.counting.right_plenty.Given as goal

abbrev pub invariant-loop-i : goal.invariant-loop-i
invariant-loop-i g l = record {
  within : l.i ≤ length l.right;
  adds :
      (two : List (TransducerRule ℕ)) → AreReady g.S.Semiring.product two → IsSource g.S.Semiring.product two l.source → (rank : ℕ) → AreKnown rank l.right →
      AddsPlenty g.S.Semiring.product two (pieces_of (drop l.i (pairs_of l.right)) (kids_there (pairs_of l.source.items.now) l.node rank)) l.total;
}

abbrev pub decreases-loop-i : goal.decreases-loop-i
decreases-loop-i g l = l.i
