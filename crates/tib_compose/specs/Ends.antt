-- Where the trees of a preorder end.
use Rattle.std.specs.Prelude.{◌≡◌, ℕ, ◌<◌, ◌≤◌, List, length, drop}
use Rattle.std.proofs.Common.{get_or}
use Rattle.tib_tree.specs.Trees.{parse, other_trees}
use Rattle.tib_grammar.specs.Sides.{Symbol}
use Rattle.tib_transducer.specs.declared.Pair.{Pair}

-- the trees from the place `to` on are those after the first `many` from the place `from` on
abbrev pub IsSkipped : List (Symbol ℕ (Pair ℕ) × ℕ) → ℕ → ℕ → ℕ → Type 0
IsSkipped pairs from many to = (from ≤ to) × (parse (drop to pairs) ≡ other_trees many (parse (drop from pairs)))

-- from a place on the list has for each place the one after its tree
abbrev pub AreEnds : List (Symbol ℕ (Pair ℕ) × ℕ) → List ℕ → ℕ → Type 0
AreEnds pairs ends from =
    (j : ℕ) → from ≤ j → j < length pairs → (j < get_or ends j 0) × (parse (drop (get_or ends j 0) pairs) ≡ other_trees 1 (parse (drop j pairs)))
