-- The walk through all translations of a right-hand side, each with its edge.
use Rattle.std.specs.Prelude.{◌≡◌, ℕ, ◌<◌, List, [], ◌∷◌, ◌++◌, length, map, Bool, true, false, Some}
use Rattle.tib_lex.specs.Lists.{total}
use Rattle.tib_grammar.specs.Sides.{Side as SideFor}
use Rattle.tib_grammar.specs.Items.{pairs_of}
use Rattle.tib_compose.specs.Branches.{IsAtLabel}
use Rattle.tib_transducer.specs.Rules.{transducer_rule}
use Rattle.tib_transducer.specs.Range.{AreShaped}
use Rattle.tib_transducer.specs.declared.Variable.{Variable}
use Rattle.tib_transducer.specs.declared.TransducerRule.{TransducerRule}
use Rattle.tib_key_edges.specs.Choices.{reads_label}
use Rattle.tib_key_edges.specs.Composition.{edge_parts}
use Rattle.tib_key_edges.specs.Pieces.{Piece as PieceOf, Result, results, GoesByPieces}
use Rattle.tib_compose.specs.CompositionListing.{edge_of, IsListing}
use Rattle.tib_compose.specs.Pending.{AreNodesBelow, Extends, Holds}
use Rattle.tib_compose.specs.PieceViews.{kids_there}
use Rattle.tib_compose.specs.Searches.{affordable, AreOneTrees, reader_results, Remains}
use Rattle.tib_compose.specs.Sources.{IsSource}
use Rattle.tib_compose.specs.declared.branch.Branch.{Branch}
use Rattle.tib_compose.specs.declared.listing.CompositionListing.{CompositionListing}
use Rattle.tib_compose.specs.declared.search.ReturnPoint.{ReturnPoint}
use Rattle.tib_compose.specs.declared.search.Search.{Search}
use Rattle.tib_compose.specs.declared.source.Source.{Source}

-- the rules of the second transducer have their shape, and a search by pieces finds all their
-- results
pub record AreReady (product : ℕ → ℕ → ℕ) (two : List (TransducerRule ℕ)) : Type 0 where
  pub shaped : AreShaped two
  pub goes : GoesByPieces product two

-- the edges of some results
abbrev pub result_edges : ℕ × ℕ → SideFor ℕ Variable → List Result → List (TransducerRule (ℕ × ℕ))
result_edges key left [] = []
result_edges key left (r ∷ rs) = edge_of key left r.1 r.0 ∷ result_edges key left rs

module _ (product : ℕ → ℕ → ℕ) (two : List (TransducerRule ℕ)) (source : Source) where
  -- a result can come of the branch, or none does
  abbrev pub ReadComes : ReturnPoint → ℕ → Branch → Branch → List PieceOf → Bool → Type 0
  ReadComes t m old new ws true =
      (rest : List PieceOf)
      × Holds product two (pairs_of source.items.now) new.pending rest
      × (affordable (results product two new.cost (pairs_of new.done.items) rest)
      ≡ reader_results product two t.cost (pairs_of old.done.items) (kids_there (pairs_of source.items.now) t.reading.node t.reading.rank) ws m)
  ReadComes t m old new ws false =
      reader_results product two t.cost (pairs_of old.done.items) (kids_there (pairs_of source.items.now) t.reading.node t.reading.rank) ws m ≡ []

  -- what comes of the branch comes of the rule that reads the label of the turn
  pub record IsRead (t : ReturnPoint) (m : ℕ) (old new : Branch) (alive : Bool) : Type 0 where
    pub done : new.done ≡ old.done
    pub tasks : Extends old.pending.tasks.items new.pending.tasks.items
    pub comes :
        AreReady product two → IsSource product two source → m < length two → reads_label t.reading.state t.reading.label t.reading.rank (transducer_rule two m) ≡ true →
        (ws : List PieceOf) → Holds product two (pairs_of source.items.now) old.pending ws → ReadComes t m old new ws alive
    pub nodes :
        AreReady product two → IsSource product two source → m < length two → reads_label t.reading.state t.reading.label t.reading.rank (transducer_rule two m) ≡ true →
        IsAtLabel source.items.now (Some t.reading) → AreNodesBelow (length source.items.now) old.pending.tasks.items → AreNodesBelow (length source.items.now) new.pending.tasks.items

  module _ (left : SideFor ℕ Variable) (order : List (ℕ × ℕ)) (key : ℕ × ℕ) (all : List (TransducerRule (ℕ × ℕ))) where
    -- the edges that are listed, and those of what is left to come, are all
    pub record IsUnderway (search : Search) (listing : CompositionListing) : Type 0 where
      pub listed : List (TransducerRule (ℕ × ℕ))
      pub left_over : List Result
      pub lists : IsListing order key listed listing
      pub remains : Remains product two (pairs_of source.items.now) search left_over
      pub trees : AreOneTrees left_over
      pub whole : listed ++ result_edges key left left_over ≡ all

    -- the same where what comes of the branch is left as well
    pub record IsOnBranch (search : Search) (listing : CompositionListing) : Type 0 where
      pub listed : List (TransducerRule (ℕ × ℕ))
      pub pieces : List PieceOf
      pub left_over : List Result
      pub lists : IsListing order key listed listing
      pub holds : Holds product two (pairs_of source.items.now) search.branch.pending pieces
      pub remains : Remains product two (pairs_of source.items.now) search left_over
      pub trees : AreOneTrees (affordable (results product two search.branch.cost (pairs_of search.branch.done.items) pieces) ++ left_over)
      pub whole : listed ++ result_edges key left (affordable (results product two search.branch.cost (pairs_of search.branch.done.items) pieces) ++ left_over) ≡ all

module _ (source : Source) (left : SideFor ℕ Variable) where
  -- some walk has come to the branch
  pub record HasCome (search : Search) (listing : CompositionListing) : Type 0 where
    pub product : ℕ → ℕ → ℕ
    pub two : List (TransducerRule ℕ)
    pub ready : AreReady product two
    pub known : IsSource product two source
    pub order : List (ℕ × ℕ)
    pub key : ℕ × ℕ
    pub all : List (TransducerRule (ℕ × ℕ))
    pub branch : IsOnBranch product two source left order key all search listing

  -- what comes of the branch is listed, or is left to come
  abbrev pub GoesOn : Search → Search → CompositionListing → CompositionListing → Type 0
  GoesOn old new before after =
      (product : ℕ → ℕ → ℕ) (two : List (TransducerRule ℕ)) → AreReady product two → IsSource product two source → (order : List (ℕ × ℕ)) (key : ℕ × ℕ) (all : List (TransducerRule (ℕ × ℕ))) →
      IsOnBranch product two source left order key all old before → IsUnderway product two source left order key all new after

  -- all edges have more parts than the budget
  abbrev pub GoesTooFar : Search → CompositionListing → Type 0
  GoesTooFar old before =
      (product : ℕ → ℕ → ℕ) (two : List (TransducerRule ℕ)) → AreReady product two → IsSource product two source → (order : List (ℕ × ℕ)) (key : ℕ × ℕ) (all : List (TransducerRule (ℕ × ℕ))) →
      IsOnBranch product two source left order key all old before → before.budget < total edge_parts all

module _ (product : ℕ → ℕ → ℕ) (two : List (TransducerRule ℕ)) (source : Source) (left : SideFor ℕ Variable) where
  -- some walk is underway
  abbrev pub HasBegun : Search → CompositionListing → Type 0
  HasBegun search listing = (order : List (ℕ × ℕ)) × (key : ℕ × ℕ) × (all : List (TransducerRule (ℕ × ℕ))) × IsUnderway product two source left order key all search listing

  -- the walk is underway still, or all edges are listed
  abbrev pub StepComes : List (ℕ × ℕ) → ℕ × ℕ → List (TransducerRule (ℕ × ℕ)) → Search → CompositionListing → Bool → Type 0
  StepComes order key all new after true = IsUnderway product two source left order key all new after
  StepComes order key all new after false = IsListing order key all after

  abbrev pub Steps : Search → Search → CompositionListing → CompositionListing → Bool → Type 0
  Steps old new before after more =
      AreReady product two → IsSource product two source → (order : List (ℕ × ℕ)) (key : ℕ × ℕ) (all : List (TransducerRule (ℕ × ℕ))) →
      IsUnderway product two source left order key all old before → StepComes order key all new after more

  -- all edges have more parts than the budget
  abbrev pub StepsTooFar : Search → CompositionListing → Type 0
  StepsTooFar old before =
      AreReady product two → IsSource product two source → (order : List (ℕ × ℕ)) (key : ℕ × ℕ) (all : List (TransducerRule (ℕ × ℕ))) →
      IsUnderway product two source left order key all old before → before.budget < total edge_parts all
