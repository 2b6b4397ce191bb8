-- What an operation returns: lists of edges, with their ends and their parts.
use Rattle.std.specs.Prelude.{◌≡◌, ◌↔◌, ℕ, List, []}
use Rattle.tib_lex.specs.Lists.{Has}
use Rattle.tib_expand.specs.EdgeLists.{AreListed, Exceeds, IsEnd}
use Rattle.tib_expand.specs.Reached.{Exploration}
use Rattle.tib_expand.specs.Reading.{Reading}
use Rattle.tib_expand.specs.declared.place.Edges.{Edges}
use Rattle.tib_expand.specs.declared.place.ExpandError.{ExpandError}
use Rattle.tib_expand.specs.declared.place.ExpandError.TheVariants.{More}

module _ {K O E R T : Type 0} (p : Exploration K O E) (reading : Reading K E R T) where
  -- the list has the edges of the seeds
  abbrev pub ListsSeedEdges : Edges K R → Type 0
  ListsSeedEdges edges = AreListed p.seed_edge p.edge_parts reading.places reading.read_places [] edges.ends.items edges.rules.items edges.parts

  -- the list has the edges of a position of the order
  abbrev pub ListsEdges : List K → ℕ → Edges K R → Type 0
  ListsEdges order n edges = AreListed (p.edge order n) p.edge_parts reading.places reading.read_places order edges.ends.items edges.rules.items edges.parts

-- the ends in the list are the keys of which P holds
abbrev pub HasEnds : {K R : Type 0} → (K → Type 0) → Edges K R → Type 0
HasEnds {K} P edges = (k : K) → Has edges.ends.items k ↔ P k

module _ {K O E : Type 0} (p : Exploration K O E) where
  -- k is an end of an edge of a position of the order
  abbrev pub IsEndAt : List K → ℕ → K → Type 0
  IsEndAt order n k = IsEnd (p.edge order n) p.ends_of k

  -- the edges of the seeds have more parts than the budget
  abbrev pub SeedEdgesExceed : ℕ → Type 0
  SeedEdgesExceed budget = Exceeds p.seed_edge p.edge_parts budget

  -- the edges of a position of the order have more parts than the budget
  abbrev pub EdgesExceed : List K → ℕ → ℕ → Type 0
  EdgesExceed order n budget = Exceeds (p.edge order n) p.edge_parts budget

-- if the error is `More`, P holds
abbrev pub IfMore : Type 0 → ExpandError → Type 0
IfMore P error = error ≡ More → P
