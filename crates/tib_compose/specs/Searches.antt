-- The search through all translations of a right-hand side.
use Rattle.std.specs.Prelude.{◌≡◌, ℕ, ◌+◌, ◌<◌, ◌≤◌, List, [], ◌∷◌, ◌++◌, length, map, reverse, take, drop, nat_le, if◌then◌else◌, Some}
use Rattle.tib_lex.specs.Lists.{Each}
use Rattle.tib_tree.specs.Trees.{Trees, preorder_of, IsOneTree}
use Rattle.tib_cost.specs.Semiring.{most}
use Rattle.tib_grammar.specs.Sides.{Symbol}
use Rattle.tib_grammar.specs.Items.{pairs_of}
use Rattle.tib_grammar.specs.declared.Item.{Item}
use Rattle.tib_transducer.specs.Rules.{transducer_rule}
use Rattle.tib_transducer.specs.declared.Pair.{Pair}
use Rattle.tib_transducer.specs.declared.Variable.{Variable}
use Rattle.tib_transducer.specs.declared.TransducerRule.{TransducerRule}
use Rattle.tib_grammar.specs.Sides.{Side as SideFor}
use Rattle.tib_key_edges.specs.Pieces.{Piece as PieceOf, read, Result, pieces_of, results}
use Rattle.tib_compose.specs.Branches.{IsAtLabel}
use Rattle.tib_compose.specs.CompositionListing.{edge_of, IsListing}
use Rattle.tib_compose.specs.Pending.{AreNodesBelow, Stands, Holds}
use Rattle.tib_compose.specs.PieceViews.{kids_there, side_there}
use Rattle.tib_compose.specs.Readers.{readers_with}
use Rattle.tib_compose.specs.declared.branch.Reading.{Reading}
use Rattle.tib_compose.specs.declared.listing.CompositionListing.{CompositionListing}
use Rattle.tib_compose.specs.declared.pending.PendingPiece.{PendingPiece}
use Rattle.tib_compose.specs.declared.search.ReturnPoint.{ReturnPoint}
use Rattle.tib_compose.specs.declared.search.Search.{Search}

-- the results of a cost at most the greatest
abbrev pub affordable : List Result → List Result
affordable [] = []
affordable (r ∷ rs) = if nat_le r.0 most then r ∷ affordable rs else affordable rs

-- each result is one tree
abbrev pub AreOneTrees : List Result → Type 0
AreOneTrees rs = Each (λ (r : Result). IsOneTree r.1) rs

-- what a function gives for each number of a list
abbrev pub all_of : {A : Type 0} → (ℕ → List A) → List ℕ → List A
all_of f [] = []
all_of f (n ∷ ns) = f n ++ all_of f ns

module _ (product : ℕ → ℕ → ℕ) (two : List (TransducerRule ℕ)) where
  -- what comes of a rule that reads a label over some sides, before other pieces
  abbrev pub reader_results : ℕ → List (Symbol ℕ (Pair (ℕ × ℕ)) × ℕ) → Trees (Symbol ℕ (Pair ℕ)) → List PieceOf → ℕ → List Result
  reader_results cost done kids ws m =
      affordable (results product two (product cost (transducer_rule two m).cost) done (pieces_of (preorder_of (transducer_rule two m).right) kids ++ ws))

  module _ (pairs : List (Symbol ℕ (Pair ℕ) × ℕ)) where
    -- the rules that read a label
    abbrev pub readers_of : Reading → List ℕ
    readers_of r = readers_with (r.state, r.label, r.rank) two

    -- what comes of the rules at a turn that are not tried, after what was put out and before other
    -- pieces
    abbrev pub turn_results : ReturnPoint → List (Symbol ℕ (Pair (ℕ × ℕ)) × ℕ) → List PieceOf → List Result
    turn_results t done ws = all_of (reader_results t.cost done (kids_there pairs t.reading.node t.reading.rank) ws) (drop t.tried (readers_of t.reading))

    -- what comes of some turns, the first before the others
    abbrev pub AreTurns : List ReturnPoint → List (Item (Pair (ℕ × ℕ))) → List PendingPiece → List Result → Type 0
    AreTurns [] done tasks rs = rs ≡ []
    AreTurns (t ∷ ts) done tasks rs =
        (ws : List PieceOf)
        × (later : List Result)
        × (t.done ≤ length done)
        × (t.tasks ≤ length tasks)
        × Stands product two pairs (take t.tasks tasks) t.next ws
        × (rs ≡ turn_results t (pairs_of (take t.done done)) ws ++ later)
        × AreTurns ts (take t.done done) (take t.tasks tasks) later

    -- what is left to come of a search, but for its branch
    abbrev pub Remains : Search → List Result → Type 0
    Remains search rs = AreTurns (reverse search.turns.items) search.branch.done.items search.branch.pending.tasks.items rs

-- the search has nothing but the whole side to be translated by the state
pub record Begins (product : ℕ → ℕ → ℕ) (cost state : ℕ) (search : Search) : Type 0 where
  pub costs : search.branch.cost ≡ cost
  pub done : search.branch.done.items ≡ []
  pub turns : search.turns.items ≡ []
  pub left : (two : List (TransducerRule ℕ)) (pairs : List (Symbol ℕ (Pair ℕ) × ℕ)) → Holds product two pairs search.branch.pending (read (side_there pairs 0) state ∷ [])
  pub nodes : (n : ℕ) → 0 < n → AreNodesBelow n search.branch.pending.tasks.items

-- the turn that a branch makes at a label
abbrev pub turn_at : Reading → Search → ReturnPoint
turn_at r search = record {
  reading = r;
  cost = search.branch.cost;
  done = length search.branch.done.items;
  tasks = length search.branch.pending.tasks.items;
  next = search.branch.pending.next;
  tried = 0;
}

-- the labels of some turns are at their nodes
abbrev pub AreTurnsAt : List (Item (Pair ℕ)) → List ReturnPoint → Type 0
AreTurnsAt items ts = Each (λ (t : ReturnPoint). IsAtLabel items (Some t.reading)) ts

-- one more turn
pub record Meets (r : Reading) (old new : Search) : Type 0 where
  pub branch : new.branch ≡ old.branch
  pub turns : new.turns.items ≡ old.turns.items ++ turn_at r old ∷ []

-- the branch is that of the turn
pub record ComesBack (t : ReturnPoint) (old new : Search) : Type 0 where
  pub turns : new.turns ≡ old.turns
  pub done : new.branch.done.items ≡ take t.done old.branch.done.items
  pub tasks : new.branch.pending.tasks.items ≡ take t.tasks old.branch.pending.tasks.items
  pub next : new.branch.pending.next ≡ t.next

-- the turn with one more rule that was tried
abbrev pub tried_more : ReturnPoint → ReturnPoint
tried_more t = record { reading = t.reading; cost = t.cost; done = t.done; tasks = t.tasks; next = t.next; tried = t.tried + 1 }

-- it is the last turn
pub record IsAgain (t : ReturnPoint) (old new : Search) : Type 0 where
  pub branch : new.branch ≡ old.branch
  pub turns : new.turns.items ≡ old.turns.items ++ tried_more t ∷ []
