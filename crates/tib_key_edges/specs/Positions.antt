-- What an index by shapes holds.
use Rattle.std.specs.Prelude.{◌≡◌, ℕ, Bool, List, length}
use Rattle.tib_grammar.specs.ShapeBuckets.{AddsPosition, held}
use Rattle.tib_key_edges.specs.Places.{positions_with}
use Rattle.tib_key_edges.specs.declared.buckets.ShapeIndex.{ShapeIndex}

-- the positions of a shape
abbrev pub positions_of : ShapeIndex → ℕ × ℕ × ℕ → List ℕ
positions_of index s = held index.shapes index.buckets.items s

-- how many buckets there are, one for each shape
abbrev pub shape_count : ShapeIndex → ℕ
shape_count index = length index.buckets.items

-- a shape gets a position as its last, and the other shapes keep theirs
abbrev pub GetsPosition : ℕ × ℕ × ℕ → ℕ → ShapeIndex → ShapeIndex → Type 0
GetsPosition shape position old new = AddsPosition shape position old.shapes old.buckets.items new.shapes new.buckets.items

-- for each shape the positions of its rules, where a test says which rules have it
abbrev pub IsIndex : {R : Type 0} → (ℕ × ℕ × ℕ → R → Bool) → List R → ShapeIndex → Type 0
IsIndex has_shape rules index = (s : ℕ × ℕ × ℕ) → positions_of index s ≡ positions_with has_shape s rules
