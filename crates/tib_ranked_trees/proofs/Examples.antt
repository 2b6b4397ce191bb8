-- Candidates of a small grammar, computed: 0 -> f(1 1) # 1, 1 -> a # 2, 1 -> b # 5, where f, a and
-- b are 0, 1 and 2.
use Rattle.std.specs.Prelude.{◌≡◌, ℕ, ◌+◌, List, [], ◌∷◌, refl}
use Rattle.std.proofs.Common.{zero, suc}
use Rattle.tib_tree.specs.Trees.{none, tree}
use Rattle.tib_grammar.specs.Sides.{label, hole}
use Rattle.tib_grammar.specs.declared.Rule.{Rule}
use Rattle.tib_ranked_trees.specs.Best.{Costed}
use Rattle.tib_ranked_trees.specs.Levels.{level, states_at}
use Rattle.tib_ranked_trees.specs.Pass.{Entries, offer, zeros_at}
use Rattle.tib_ranked_trees.specs.Walks.{weight, pairs}

abbrev pub small : List (Rule ℕ)
small =
    record { left = 0; right = record { label = label 0; kids = tree (hole 1) none (tree (hole 1) none none) }; cost = 1 }
    ∷ record { left = 1; right = record { label = label 1; kids = none }; cost = 2 }
    ∷ record { left = 1; right = record { label = label 2; kids = none }; cost = 5 }
    ∷ []

-- a leaf with its cost
abbrev leaf : ℕ → ℕ → Costed
leaf f c = (record { label = f; kids = none }, c)

-- both trees of state 1 are listed, and none of state 0
abbrev lists : Entries
lists zero = []
lists (suc q) = leaf 1 2 ∷ leaf 2 5 ∷ []

-- the first candidate of the first rule is f(a a), at 1 + 2 + 2
first_candidate : offer ◌+◌ small lists 0 (zeros_at small 0) ≡ (record { label = 0; kids = tree 1 none (tree 1 none none) }, 5)
first_candidate = refl

-- with the rank at the second place raised by one it is f(a b), at 1 + 2 + 5
next_candidate : offer ◌+◌ small lists 0 (0 ∷ 1 ∷ []) ≡ (record { label = 0; kids = tree 1 none (tree 2 none none) }, 8)
next_candidate = refl

-- the entries that it names have two nodes
entries_weigh : weight lists (pairs (states_at small 0) (0 ∷ 1 ∷ [])) ≡ 2
entries_weigh = refl

-- the level of cost 2 has the first two rules, at no cost
low_level : level 2 small ≡ record { left = 0; right = record { label = label 0; kids = tree (hole 1) none (tree (hole 1) none none) }; cost = 0 } ∷ record { left = 1; right = record { label = label 1; kids = none }; cost = 0 } ∷ []
low_level = refl
