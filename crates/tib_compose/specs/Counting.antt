-- How lower bounds on translations are found.
use Rattle.std.specs.Prelude.{◌≡◌, ℕ, ◌+◌, ◌<◌, List, [], ◌∷◌, length, true}
use Rattle.tib_lex.specs.Lists.{total}
use Rattle.tib_grammar.specs.Items.{pairs_of}
use Rattle.tib_grammar.specs.declared.Item.{Item}
use Rattle.tib_transducer.specs.Rules.{transducer_rule}
use Rattle.tib_transducer.specs.declared.Pair.{Pair}
use Rattle.tib_transducer.specs.declared.TransducerRule.{TransducerRule}
use Rattle.tib_key_edges.specs.Choices.{reads_label}
use Rattle.tib_key_edges.specs.Composition.{edge_parts}
use Rattle.tib_key_edges.specs.Pieces.{read, pieces_of, results}
use Rattle.tib_compose.specs.PieceViews.{AreKnown, kids_there, piece_of, side_there}
use Rattle.tib_compose.specs.Plenties.{AddsPlenty, RulesAdd}
use Rattle.tib_compose.specs.Readers.{readers_with}
use Rattle.tib_compose.specs.Searches.{affordable}
use Rattle.tib_compose.specs.Sources.{IsSource}
use Rattle.tib_compose.specs.Walk.{AreReady, result_edges}
use Rattle.tib_compose.specs.declared.branch.Reading.{Reading}
use Rattle.tib_compose.specs.declared.listing.CompositionListing.{CompositionListing}
use Rattle.tib_compose.specs.declared.pending.Piece.{Piece}
use Rattle.tib_compose.specs.declared.plenty.Plenty.{Plenty}
use Rattle.tib_compose.specs.declared.source.Source.{Source}

module _ (product : ℕ → ℕ → ℕ) (source : Source) where
  -- a piece has at least so many translations
  abbrev pub PieceAdds : Piece → Plenty → Type 0
  PieceAdds piece v =
      (two : List (TransducerRule ℕ)) → AreReady product two → IsSource product two source → AddsPlenty product two (piece_of (pairs_of source.items.now) piece ∷ []) v

  -- so have the pieces of a right-hand side below a node
  abbrev pub RightAdds : List (Item (Pair ℕ)) → ℕ → Plenty → Type 0
  RightAdds right node v =
      (two : List (TransducerRule ℕ)) → AreReady product two → IsSource product two source → (rank : ℕ) → AreKnown rank right →
      AddsPlenty product two (pieces_of (pairs_of right) (kids_there (pairs_of source.items.now) node rank)) v

  -- the translations of the whole side by a state have more parts than the budget leaves
  abbrev pub SideOverruns : TransducerRule ℕ → ℕ → CompositionListing → Type 0
  SideOverruns r p l =
      (two : List (TransducerRule ℕ)) → AreReady product two → IsSource product two source → (key : ℕ × ℕ) →
      l.budget < l.parts + total edge_parts (result_edges key r.left (affordable (results product two r.cost [] (read (side_there (pairs_of source.items.now) 0) p ∷ []))))

  module _ (two : List (TransducerRule ℕ)) where
    -- the rule at a position has so many translations of a node whose label it reads
    abbrev pub RuleAddsAt : ℕ → ℕ → Plenty → Type 0
    RuleAddsAt node m v =
        AreReady product two → IsSource product two source → (p f rank : ℕ) → m < length two → reads_label p f rank (transducer_rule two m) ≡ true →
        RulesAdd product two (kids_there (pairs_of source.items.now) node rank) (m ∷ []) v

    -- all rules that read a label have so many
    abbrev pub LabelAdds : Reading → Plenty → Type 0
    LabelAdds r v =
        AreReady product two → IsSource product two source → RulesAdd product two (kids_there (pairs_of source.items.now) r.node r.rank) (readers_with (r.state, r.label, r.rank) two) v
