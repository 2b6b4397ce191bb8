-- Two lists of trees read as one.
use Rattle.std.specs.Prelude.{ℕ, ◌+◌, ◌^◌, ◌<◌, List, ◌++◌, length, map}
use Rattle.std.proofs.Common.{get_or}
use Rattle.tib_ranked_trees.specs.Best.{Costed}
use Rattle.tib_ranked_trees.specs.Pass.{no_entry}

-- the tree of a place, at the cost that comes with the place
abbrev pub told_below : List Costed → ℕ × ℕ → Costed
told_below below p = ((get_or below p.1 no_entry).0, p.0)

-- the tree of a place, at a cost
abbrev pub told_at : List Costed → ℕ → ℕ → Costed
told_at at c i = ((get_or at i no_entry).0, c)

-- first trees of the one list, each at its own cost, and then trees of the other, all at one cost
abbrev pub ranked_of : List Costed → List Costed → ℕ → List (ℕ × ℕ) → List ℕ → List Costed
ranked_of below at c first rest = map (told_below below) first ++ map (told_at at c) rest

-- each place is in its list, and the places are fewer than 2^32
pub record AreRanked (below at : List Costed) (first : List (ℕ × ℕ)) (rest : List ℕ) : Type 0 where
  pub few : length first + length rest < 2 ^ 32
  pub below_has : (i : ℕ) → i < length first → (get_or first i (0, 0)).1 < length below
  pub at_has : (i : ℕ) → i < length rest → get_or rest i 0 < length at
