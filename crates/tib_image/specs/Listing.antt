-- The edges of a key, listed one after another.
use Rattle.std.specs.Prelude.{ℕ}
use Rattle.tib_grammar.specs.declared.Rule.{Rule}
use Rattle.tib_transducer.specs.declared.Pair.{Pair}
use Rattle.tib_key_edges.specs.declared.side_listing.SideListing.{SideListing}
use Rattle.tib_key_edges.specs.Listing.{GetsOrigin, IsBeyond, HasEdges, AreBeyond}

-- a list of edges to right-hand sides
abbrev pub Listing : Type 0
Listing = SideListing (ℕ × ℕ) (Pair ℕ)

-- where Gives says which edge an origin gives the key
module _ (Gives : ℕ → Rule (ℕ × ℕ) → Type 0) (key : ℕ × ℕ) where
  -- the list gets the edge of an origin that was not tried yet, where it gives one
  abbrev pub ListsOrigin : ℕ → Listing → Listing → Type 0
  ListsOrigin o old new = GetsOrigin Gives (0, 0) key o old new

  -- with this edge there are more parts than the budget
  abbrev pub OriginOverruns : ℕ → Listing → Type 0
  OriginOverruns o old = IsBeyond Gives (0, 0) key o old

  -- the list has every edge of the key, over each order in which the key has this position
  abbrev pub ListsKey : ℕ → Listing → Type 0
  ListsKey position l = HasEdges Gives (0, 0) key position l

  -- the edges of the key have more parts than the budget
  abbrev pub KeyOverruns : ℕ → ℕ → Type 0
  KeyOverruns position budget = AreBeyond Gives (0, 0) key position budget
