use Rattle.std.proofs.Common.{◌≡◌, ◌≤◌, ◌++◌, ℕ, List, length, drop, get_or}
use Rattle.tib_grammar.specs.declared.Item.TheVariants.{Label}
use Rattle.tib_grammar.specs.Items.{pairs_of}
use Rattle.tib_transducer.specs.declared.TransducerRule.{TransducerRule}
use Rattle.tib_key_edges.specs.Pieces.{Piece as PieceOf, pieces_of}
use Rattle.tib_compose.specs.Pending.{AreNodesBelow, Extends, Holds}
use Rattle.tib_compose.specs.PieceViews.{AreKnown, kids_there}
use Rattle.tib_compose.specs.Sources.{IsSource}
use Rattle.tib_compose.proofs.putting.push_pieces.Given as goal

abbrev pub invariant-loop-i : goal.invariant-loop-i
invariant-loop-i g l = record {
  within : l.i ≤ length l.right;
  tasks : Extends l.fn.pending.tasks.items l.pending.tasks.items;
  pieces :
      (two : List (TransducerRule ℕ)) → IsSource g.S.Semiring.product two l.source → (rank : ℕ) → AreKnown rank l.right → (ws : List PieceOf) →
      Holds g.S.Semiring.product two (pairs_of l.source.items.now) l.fn.pending ws →
      Holds g.S.Semiring.product two (pairs_of l.source.items.now) l.pending (pieces_of (drop l.i (pairs_of l.right)) (kids_there (pairs_of l.source.items.now) l.node rank) ++ ws);
  nodes :
      (two : List (TransducerRule ℕ)) → IsSource g.S.Semiring.product two l.source → (f rank : ℕ) → get_or l.source.items.now l.node (Label 0 0) ≡ Label f rank → AreKnown rank l.right →
      AreNodesBelow (length l.source.items.now) l.fn.pending.tasks.items → AreNodesBelow (length l.source.items.now) l.pending.tasks.items;
}

abbrev pub decreases-loop-i : goal.decreases-loop-i
decreases-loop-i g l = l.i
