-- What is held while an operation is hunted.
use Rattle.std.specs.Prelude.{◌≡◌, ℕ, ◌+◌, ◌<◌, ◌≤◌, List, [], ◌++◌, length, map, slice_index_or}
use Rattle.tib_lex.specs.Lists.{Has, Each, Distinct, total}
use Rattle.tib_expand.specs.EdgeLists.{IsEnd}
use Rattle.tib_expand.specs.Reached.{Exploration, IsNew, AfterRounds, AreEdges, Leads}
use Rattle.tib_expand.specs.Reading.{Reading, AreBelow}
use Rattle.tib_hunt.specs.Rows.{NumberedRow, read_rows, IsRowBelow}

-- the key of a number, where the numbers are indexes in a list of keys
abbrev pub at : {K : Type 0} → K → List K → ℕ → K
at d keys n = slice_index_or keys n d

module _ {K O E R T : Type 0} (p : Exploration K O E) (admits : K → Type 0) (reading : Reading K E R T) where
  -- the edges of the settled rules, and then those of the rows
  abbrev pub edges_so_far : K → List K → List T → List (NumberedRow R) → List E
  edges_so_far d keys rules rows = map (reading.read_positions (at d keys)) rules ++ read_rows reading.read_places (at d keys) rows

  -- The keys are those of the order at the round's beginning, and then the fresh ones in the order
  -- of first sight, each once. All are in the reached set, and their parts and those of the edges
  -- so far are within the limit.
  pub record IsHeld (order keys : List K) (rules : List T) (rows : List (NumberedRow R)) (parts limit : ℕ) : Type 0 where
    pub fresh : List K
    pub keys_are : keys ≡ order ++ fresh
    pub once : Distinct keys
    pub leads : Leads p order keys
    pub admitted : Each admits keys
    pub rules_below : AreBelow reading.positions (length order) rules
    pub rows_below : Each (IsRowBelow reading.places (length order) (length keys)) rows
    pub enough : total p.key_parts keys ≤ parts
    pub counted : (d : K) → parts ≡ total p.key_parts keys + total p.edge_parts (edges_so_far d keys rules rows)
    pub within : parts ≤ limit

  -- Between two rounds: the order after some rounds. The positions below the first one are
  -- expanded, and their rules are settled.
  pub record IsBetween (first : ℕ) (keys : List K) (rules : List T) (parts limit : ℕ) : Type 0 where
    pub rounds : ℕ
    pub after : AfterRounds p rounds first keys
    pub held : IsHeld keys keys rules [] parts limit
    pub low : first ≤ length keys
    pub edges : (d : K) → AreEdges p keys first (edges_so_far d keys rules [])

  -- Within a round: the positions below n are expanded, and the fresh keys are the new ends of
  -- those from the first one on.
  pub record IsWithinRound (order : List K) (first n : ℕ) (keys : List K) (rules : List T) (rows : List (NumberedRow R)) (parts limit : ℕ) : Type 0 where
    pub rounds : ℕ
    pub after : AfterRounds p rounds first order
    pub held : IsHeld order keys rules rows parts limit
    pub from : first ≤ n
    pub low : n ≤ length order
    pub edges : (d : K) → AreEdges p order n (edges_so_far d keys rules rows)
    pub ends : (k : K) → Has keys k → (Has order k → ⊥) → IsNew p order first k
    pub seen : (i : ℕ) (k : K) → first ≤ i → i < n → IsEnd (p.edge order i) p.ends_of k → Has keys k
