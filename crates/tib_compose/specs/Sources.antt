-- Right-hand sides of the first transducer that are to be translated.
use Rattle.std.specs.Prelude.{◌≡◌, ℕ, List, ◌++◌, length}
use Rattle.std.proofs.Common.{get_or}
use Rattle.tib_tree.specs.Trees.{HasChildren}
use Rattle.tib_grammar.specs.Items.{pairs_of}
use Rattle.tib_grammar.specs.declared.Item.{Item}
use Rattle.tib_grammar.specs.declared.Item.TheVariants.{Label}
use Rattle.tib_transducer.specs.declared.Pair.{Pair}
use Rattle.tib_transducer.specs.declared.TransducerRule.{TransducerRule}
use Rattle.tib_key_edges.specs.Pieces.{Piece as PieceOf, pieces_of}
use Rattle.tib_compose.specs.Bounds.{AreBounds}
use Rattle.tib_compose.specs.Ends.{AreEnds}
use Rattle.tib_compose.specs.Pending.{AreNodesBelow, Extends, Holds}
use Rattle.tib_compose.specs.PieceViews.{AreKnown, kids_there}
use Rattle.tib_compose.specs.Plenties.{ArePlenties}
use Rattle.tib_compose.specs.declared.pending.Pending.{Pending}
use Rattle.tib_compose.specs.declared.source.Source.{Source}

-- the items are those of a tree, each with its end, the bounds are those of its translations, and
-- there are as many of these as are known
pub record IsSource (product : ℕ → ℕ → ℕ) (two : List (TransducerRule ℕ)) (source : Source) : Type 0 where
  pub children : HasChildren (pairs_of source.items.now)
  pub ends : AreEnds (pairs_of source.items.now) source.ends.items 0
  pub bounds : AreBounds product two (pairs_of source.items.now) source.bounds
  pub plenties : ArePlenties product two (pairs_of source.items.now) source.plenties

-- the pieces of a right-hand side below a node come before what was left
pub record PutsPieces (product : ℕ → ℕ → ℕ) (right : List (Item (Pair ℕ))) (source : Source) (node : ℕ) (old new : Pending) : Type 0 where
  pub tasks : Extends old.tasks.items new.tasks.items
  pub pieces :
      (two : List (TransducerRule ℕ)) → IsSource product two source → (rank : ℕ) → AreKnown rank right → (ws : List PieceOf) → Holds product two (pairs_of source.items.now) old ws →
      Holds product two (pairs_of source.items.now) new (pieces_of (pairs_of right) (kids_there (pairs_of source.items.now) node rank) ++ ws)
  pub nodes :
      (two : List (TransducerRule ℕ)) → IsSource product two source → (f rank : ℕ) → get_or source.items.now node (Label 0 0) ≡ Label f rank → AreKnown rank right →
      AreNodesBelow (length source.items.now) old.tasks.items → AreNodesBelow (length source.items.now) new.tasks.items
