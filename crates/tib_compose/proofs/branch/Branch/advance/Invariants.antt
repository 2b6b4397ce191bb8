use Rattle.std.proofs.Common.{◌≡◌, ℕ, List}
use Rattle.tib_grammar.specs.Items.{pairs_of}
use Rattle.tib_transducer.specs.declared.TransducerRule.{TransducerRule}
use Rattle.tib_key_edges.specs.Pieces.{Piece as PieceOf, GoesByPieces, results}
use Rattle.tib_compose.specs.Pending.{Holds}
use Rattle.tib_compose.specs.Branches.{OnlyPutsOut}
use Rattle.tib_compose.proofs.branch.Branch.advance.Given as goal

abbrev pub invariant-loop-piece : goal.invariant-loop-piece
invariant-loop-piece l = record {
  puts : OnlyPutsOut l.fn.self l.self;
  comes :
      (product : ℕ → ℕ → ℕ) (two : List (TransducerRule ℕ)) → GoesByPieces product two → (ws : List PieceOf) → Holds product two (pairs_of l.items) l.fn.self.pending ws →
      (rest : List PieceOf) × Holds product two (pairs_of l.items) l.self.pending rest
      × (results product two l.fn.self.cost (pairs_of l.fn.self.done.items) ws ≡ results product two l.fn.self.cost (pairs_of l.self.done.items) rest);
}

abbrev pub decreases-loop-piece : goal.decreases-loop-piece
decreases-loop-piece l = l.self.pending.next
