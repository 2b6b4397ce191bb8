-- Right-hand sides of one label over pairs, and the edges that rules of the second transducer give
-- with them.
use Rattle.std.specs.Prelude.{◌≡◌, ℕ, ◌<◌, List, [], ◌∷◌, ◌++◌, length, map, drop, Option, None, Some, true}
use Rattle.tib_lex.specs.Lists.{total}
use Rattle.tib_tree.specs.Trees.{HasChildren}
use Rattle.tib_grammar.specs.Sides.{Symbol, hole, label, Side as SideFor}
use Rattle.tib_grammar.specs.Items.{pairs_of}
use Rattle.tib_grammar.specs.declared.Item.{Item}
use Rattle.tib_transducer.specs.Rules.{transducer_rule}
use Rattle.tib_transducer.specs.declared.Pair.{Pair}
use Rattle.tib_transducer.specs.declared.Variable.{Variable}
use Rattle.tib_transducer.specs.declared.TransducerRule.{TransducerRule}
use Rattle.tib_key_edges.specs.Choices.{reads_label}
use Rattle.tib_key_edges.specs.Composition.{edge_parts}
use Rattle.tib_key_edges.specs.Pieces.{Piece as PieceOf, Result, GoesByPieces, pieces_of, results}
use Rattle.tib_compose.specs.CompositionListing.{IsListing}
use Rattle.tib_compose.specs.PieceViews.{AreKnown, IsKnown, kids_there, piece_below}
use Rattle.tib_compose.specs.Searches.{reader_results}
use Rattle.tib_compose.specs.Walk.{AreReady, result_edges}
use Rattle.tib_compose.specs.declared.listing.CompositionListing.{CompositionListing}

-- a pair as a leaf
abbrev pub leaf : Pair ℕ → Symbol ℕ (Pair ℕ) × ℕ
leaf x = (hole x, 0)

-- from a place on there are pairs alone
abbrev pub ArePairsFrom : ℕ → List (Item (Pair ℕ)) → Type 0
ArePairsFrom i items = (xs : List (Pair ℕ)) × (drop i (pairs_of items) ≡ map leaf xs)

-- the preorder is the label f over n trees, with pairs alone after it
abbrev pub IsFlatOver : List (Symbol ℕ (Pair ℕ) × ℕ) → ℕ → ℕ → Type 0
IsFlatOver pairs f n = (xs : List (Pair ℕ)) × (pairs ≡ (label f, n) ∷ map leaf xs)

-- the rule at a position reads the label of such a side
abbrev pub ReadsFlat : List (TransducerRule ℕ) → List (Item (Pair ℕ)) → ℕ → Type 0
ReadsFlat two items m = (p : ℕ) × (f : ℕ) × (n : ℕ) × IsFlatOver (pairs_of items) f n × HasChildren (pairs_of items) × (reads_label p f n (transducer_rule two m) ≡ true)

-- an item of a rule's right-hand side is put out below such a side, before other pieces
abbrev pub PutsBelow : List (Item (Pair ℕ)) → Item (Pair ℕ) → List (Item (Pair (ℕ × ℕ))) → List (Item (Pair (ℕ × ℕ))) → Type 0
PutsBelow items x old new =
    (product : ℕ → ℕ → ℕ) (two : List (TransducerRule ℕ)) → GoesByPieces product two → (f n : ℕ) → IsFlatOver (pairs_of items) f n → (cost : ℕ) (ws : List PieceOf) →
    results product two cost (pairs_of old) (piece_below (pairs_of items) 0 x ∷ ws) ≡ results product two cost (pairs_of new) ws

-- the right-hand side of a rule is put out in place of such a side, and nothing else comes of it
abbrev pub PutsRight : List (Item (Pair ℕ)) → List (Item (Pair ℕ)) → List (Item (Pair (ℕ × ℕ))) → Type 0
PutsRight items right done =
    (product : ℕ → ℕ → ℕ) (two : List (TransducerRule ℕ)) → GoesByPieces product two → (f n : ℕ) → IsFlatOver (pairs_of items) f n → AreKnown n right → (cost : ℕ) →
    results product two cost [] (pieces_of (pairs_of right) (kids_there (pairs_of items) 0 n) ++ []) ≡ (cost, pairs_of done) ∷ []

-- what is put out at a cost, and nothing where there is none
abbrev pub kept : Option ℕ → List (Symbol ℕ (Pair (ℕ × ℕ)) × ℕ) → List Result
kept None done = []
kept (Some c) done = (c, done) ∷ []

module _ (left : SideFor ℕ Variable) (done : List (Item (Pair (ℕ × ℕ)))) (cost : Option ℕ) where
  -- its edges come after those that were listed
  abbrev pub ListsKept : CompositionListing → CompositionListing → Type 0
  ListsKept old new =
      (order : List (ℕ × ℕ)) (key : ℕ × ℕ) (es : List (TransducerRule (ℕ × ℕ))) → IsListing order key es old →
      IsListing order key (es ++ result_edges key left (kept cost (pairs_of done))) new

  -- with them there are more parts than the budget
  abbrev pub KeptOverruns : CompositionListing → Type 0
  KeptOverruns old =
      (order : List (ℕ × ℕ)) (key : ℕ × ℕ) (es : List (TransducerRule (ℕ × ℕ))) → IsListing order key es old →
      old.budget < total edge_parts (es ++ result_edges key left (kept cost (pairs_of done)))

module _ (product : ℕ → ℕ → ℕ) (two : List (TransducerRule ℕ)) (rule : TransducerRule ℕ) (items : List (Item (Pair ℕ))) where
  -- what comes of a rule that reads the label over n pairs
  abbrev pub flat_results : ℕ → ℕ → List Result
  flat_results n m = reader_results product two rule.cost [] (kids_there (pairs_of items) 0 n) [] m

  -- its edges come after those that were listed
  abbrev pub ListsReader : ℕ → CompositionListing → CompositionListing → Type 0
  ListsReader m old new =
      AreReady product two → (p f n : ℕ) → IsFlatOver (pairs_of items) f n → m < length two → reads_label p f n (transducer_rule two m) ≡ true →
      (order : List (ℕ × ℕ)) (key : ℕ × ℕ) (es : List (TransducerRule (ℕ × ℕ))) → IsListing order key es old →
      IsListing order key (es ++ result_edges key rule.left (flat_results n m)) new

  -- with them there are more parts than the budget
  abbrev pub ReaderOverruns : ℕ → CompositionListing → Type 0
  ReaderOverruns m old =
      AreReady product two → (p f n : ℕ) → IsFlatOver (pairs_of items) f n → m < length two → reads_label p f n (transducer_rule two m) ≡ true →
      (order : List (ℕ × ℕ)) (key : ℕ × ℕ) (es : List (TransducerRule (ℕ × ℕ))) → IsListing order key es old →
      old.budget < total edge_parts (es ++ result_edges key rule.left (flat_results n m))
