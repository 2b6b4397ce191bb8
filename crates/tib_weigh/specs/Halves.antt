-- How a list of trees is split into two pieces.
use Rattle.std.specs.Prelude.{◌≡◌, ◌⊎◌, ◌≤◌, ◌<◌, ◌+◌, ◌-◌, ◌/◌, ◌^◌, ℕ, List, length, take, min}
use Rattle.tib_lex.specs.Lists.{total}
use Rattle.tib_tree.specs.Trees.{Tree, size}

-- how many nodes the trees have, counted up to the greatest number of a machine word
abbrev pub nodes_among : List (Tree ℕ) → ℕ
nodes_among ts = min (total size ts) (2 ^ 64 - 1)

-- half of this number
abbrev pub half_of : List (Tree ℕ) → ℕ
half_of ts = nodes_among ts / 2

-- the first n trees are the fewest that have so many nodes, but one tree where none is asked for,
-- and all but one where only all have as many
pub record AreFirstWith (ts : List (Tree ℕ)) (nodes n : ℕ) : Type 0 where
  pub enough : (nodes ≤ total size (take n ts)) ⊎ (length ts ≡ n + 1)
  pub needed : (n ≡ 1) ⊎ (total size (take (n - 1) ts) < nodes)

-- why trees are not split: they may not be, are fewer than two, or have too few nodes for two
-- pieces
abbrev pub IsWhole : List (Tree ℕ) → ℕ → ℕ → Type 0
IsWhole ts times least = (times ≡ 0) ⊎ ((length ts < 2) ⊎ (half_of ts < least))
