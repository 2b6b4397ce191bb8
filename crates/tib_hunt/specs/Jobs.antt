-- The items of a round as a task for several workers.
use Rattle.std.specs.Prelude.{◌≡◌, ◌↔◌, Some, ℕ, ◌+◌, ◌-◌, ◌<◌, List, length, slice_index_or}
use Rattle.std.specs.Global.{Vec}
use Rattle.std.specs.List.{All}
use Rattle.std.proofs.Common.{arith}
use Rattle.tib_lex.specs.Lists.{Has, Each}
use Rattle.tib_lex.proofs.Members.{has_at}
use Rattle.tib_expand.specs.EdgeLists.{AreListed, Exceeds}
use Rattle.tib_expand.specs.Expanded.{IsEndAt}
use Rattle.tib_hunt.specs.Known.{AreSplit, split_has, split_lacks}
use Rattle.tib_hunt.specs.declared.lookups.EndAt.{EndAt}
use Rattle.tib_hunt.specs.declared.lookups.Ruled.{Ruled}
use Rattle.tib_expand.specs.Reached.{Exploration}
use Rattle.tib_expand.specs.Reading.{Reading}
use Rattle.tib_hunt.specs.RoundModel.{IsItem}

-- The data of a round are its problem, the order, the first position that is not expanded, and an
-- index of the order. Its items are the positions from there on, by their distance from it.
abbrev pub items_in : {P K I : Type 0} → P × List K × ℕ × I → ℕ
items_in d = length d.1 - d.2

-- k is an end of an edge of an item
abbrev pub IsItemEnd : {P K I O E : Type 0} → (P → Exploration K O E) → P × List K × ℕ × I → K → Type 0
IsItemEnd of d k = (i : ℕ) × IsItem d.2 (items_in d) i × IsEndAt (of d.0) d.1 i k

-- k is an end of an edge of an item, and the order lacks it
abbrev pub IsLackedEnd : {P K I O E : Type 0} → (P → Exploration K O E) → P × List K × ℕ × I → K → Type 0
IsLackedEnd of d k = IsItemEnd of d k × (Has d.1 k → ⊥)

-- each key of the order is admitted, and the index is one of the order
abbrev pub IsExpandable : {P K I : Type 0} → (P → K → Type 0) → (P → List K → I → Type 0) → P × List K × ℕ × I → Type 0
IsExpandable admits indexes d = Each (admits d.0) d.1 × indexes d.0 d.1 d.3

-- An item gives the edges of its position, with all their ends and their parts. Each end has its
-- position, and those that the order lacks are handed on.
abbrev pub GivesEdges : {P K I O E R T : Type 0} → (P → Exploration K O E) → Reading K E R T → P × List K × ℕ × I → ℕ → List K → Ruled R → ℕ → Type 0
GivesEdges {P} {K} {I} of reading d item lacked ruled parts =
    (ends : List K) × AreListed ((of d.0).edge d.1 (d.2 + item)) (of d.0).edge_parts reading.places reading.read_places d.1 ends ruled.rules.items parts
    × ((k : K) → Has ends k ↔ IsEndAt (of d.0) d.1 (d.2 + item) k)
    × ((at : Vec EndAt) × (ruled.at ≡ Some at) × AreSplit d.1 ends at.items lacked)

-- the edges of an item's position have more parts than the budget
abbrev pub ItemExceeds : {P K I O E : Type 0} → (P → Exploration K O E) → P × List K × ℕ × I → ℕ → ℕ → Type 0
ItemExceeds of d item budget = Exceeds ((of d.0).edge d.1 (d.2 + item)) (of d.0).edge_parts budget

-- the ends that an item hands on are ends of an item that the order lacks
pub ends_held : {P K I O E R T : Type 0} (of : P → Exploration K O E) (reading : Reading K E R T) (d : P × List K × ℕ × I) (item : ℕ) (lacked : List K) (ruled : Ruled R) (parts : ℕ)
    → item < items_in d → GivesEdges of reading d item lacked ruled parts → All (IsLackedEnd of d) lacked
ends_held of reading d item lacked ruled parts below given n k low =
    let h = has_at lacked n k low in (
      (d.2 + item, (omega arith, omega arith), (given.2 (slice_index_or lacked n k)).0 (split_has d.1 given.0 given.3.0.items lacked given.3.2 (slice_index_or lacked n k) h)),
      split_lacks d.1 given.0 given.3.0.items lacked given.3.2 (slice_index_or lacked n k) h,
    )
