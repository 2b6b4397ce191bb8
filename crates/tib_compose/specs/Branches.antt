-- What comes of right-hand sides that are translated in part.
use Rattle.std.specs.Prelude.{◌≡◌, ℕ, ◌<◌, List, [], ◌∷◌, ◌++◌, length, Option, None, Some}
use Rattle.tib_grammar.specs.Sides.{Symbol}
use Rattle.tib_grammar.specs.Items.{pairs_of}
use Rattle.std.proofs.Common.{get_or}
use Rattle.tib_grammar.specs.declared.Item.{Item}
use Rattle.tib_grammar.specs.declared.Item.TheVariants.{Label}
use Rattle.tib_transducer.specs.declared.Pair.{Pair}
use Rattle.tib_transducer.specs.declared.TransducerRule.{TransducerRule}
use Rattle.tib_key_edges.specs.Pieces.{Piece as PieceOf, Result, results, results_by, GoesByPieces}
use Rattle.tib_compose.specs.Pending.{Extends, Holds}
use Rattle.tib_compose.specs.PieceViews.{piece_of, kids_there}
use Rattle.tib_compose.specs.declared.pending.Piece.{Piece}
use Rattle.tib_compose.specs.declared.branch.Reading.{Reading}
use Rattle.tib_compose.specs.declared.branch.Branch.{Branch}

-- what comes of the rules that read a label, at a cost, after what was put out, and before other
-- pieces
abbrev pub reading_results : (ℕ → ℕ → ℕ) → List (TransducerRule ℕ) → List (Item (Pair ℕ)) → Branch → Reading → List PieceOf → List Result
reading_results product two items b r ws =
    results_by product two b.cost (pairs_of b.done.items) r.label (kids_there (pairs_of items) r.node r.rank) r.state ws (length two)

-- only what was put out changes, and grows at its end
pub record OnlyPutsOut (old new : Branch) : Type 0 where
  pub cost : new.cost ≡ old.cost
  pub tasks : new.pending.tasks ≡ old.pending.tasks
  pub done : Extends old.done.items new.done.items

-- the label that is to be read is at its node
abbrev pub IsAtLabel : List (Item (Pair ℕ)) → Option Reading → Type 0
IsAtLabel items None = Unit {0}
IsAtLabel items (Some r) = (r.node < length items) × (get_or items r.node (Label 0 0) ≡ Label r.label r.rank)

module _ (product : ℕ → ℕ → ℕ) (two : List (TransducerRule ℕ)) (items : List (Item (Pair ℕ))) (old new : Branch) where
  -- what comes of the piece before others is what comes of the others, or of the label before them
  abbrev pub TakenComes : Piece → List PieceOf → Option Reading → Type 0
  TakenComes piece ws None =
      results product two old.cost (pairs_of old.done.items) (piece_of (pairs_of items) piece ∷ ws) ≡ results product two old.cost (pairs_of new.done.items) ws
  TakenComes piece ws (Some r) =
      results product two old.cost (pairs_of old.done.items) (piece_of (pairs_of items) piece ∷ ws) ≡ reading_results product two items new r ws

  -- what comes of what is left is what was put out, or what comes of the label before what is left
  -- now
  abbrev pub AdvancedComes : List PieceOf → Option Reading → Type 0
  AdvancedComes ws None = results product two old.cost (pairs_of old.done.items) ws ≡ (old.cost, pairs_of new.done.items) ∷ []
  AdvancedComes ws (Some r) =
      (rest : List PieceOf)
      × Holds product two (pairs_of items) new.pending rest
      × (results product two old.cost (pairs_of old.done.items) ws ≡ reading_results product two items new r rest)

-- The piece is put out, or is a label that is to be read, and what comes of it stays the same.
pub record IsTaken (items : List (Item (Pair ℕ))) (piece : Piece) (old new : Branch) (reading : Option Reading) : Type 0 where
  pub puts : OnlyPutsOut old new
  pub next : new.pending.next ≡ old.pending.next
  pub at : IsAtLabel items reading
  pub comes : (product : ℕ → ℕ → ℕ) (two : List (TransducerRule ℕ)) → GoesByPieces product two → (ws : List PieceOf) → TakenComes product two items old new piece ws reading

-- All is put out, or a label is to be read; what comes of the branch stays the same.
pub record IsAdvanced (items : List (Item (Pair ℕ))) (old new : Branch) (reading : Option Reading) : Type 0 where
  pub puts : OnlyPutsOut old new
  pub at : IsAtLabel items reading
  pub comes :
      (product : ℕ → ℕ → ℕ) (two : List (TransducerRule ℕ)) → GoesByPieces product two → (ws : List PieceOf) → Holds product two (pairs_of items) old.pending ws →
      AdvancedComes product two items old new ws reading
