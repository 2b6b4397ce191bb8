-- How many states a round asks.
use Rattle.std.specs.Prelude.{◌≡◌, ℕ, ◌+◌, ◌≤◌, ◌⊎◌, List, [], ◌∷◌, ◌++◌}
use Rattle.tib_tree.specs.Trees.{size}
use Rattle.tib_grammar.specs.declared.Rule.{Rule}
use Rattle.tib_ranked_trees.specs.Levels.{states_at}
use Rattle.tib_ranked_trees.specs.Pass.{Entries, entry_at, AreRanks, offer}

-- a row of states with ranks
abbrev pub pairs : List ℕ → List ℕ → List (ℕ × ℕ)
pairs [] js = []
pairs (q ∷ qs) [] = []
pairs (q ∷ qs) (j ∷ js) = (q, j) ∷ pairs qs js

-- how many nodes the entries have that they name
abbrev pub weight : Entries → List (ℕ × ℕ) → ℕ
weight entries [] = 0
weight entries (p ∷ ps) = size (entry_at entries p.0 p.1).0 + weight entries ps

-- some of a list, in order
abbrev pub AreSome : List (ℕ × ℕ) → List (ℕ × ℕ) → Type 0
AreSome [] cs = cs ≡ []
AreSome (p ∷ ps) cs = AreSome ps cs ⊎ ((rest : List (ℕ × ℕ)) × (cs ≡ p ∷ rest) × AreSome ps rest)

-- A walk takes an entry from its stack, and puts some of the entries that its candidate names on
-- the stack. The stack is then lighter by at least one node, so the walk takes no more entries than
-- the first one has nodes.
pub record WalksAreShort (product : ℕ → ℕ → ℕ) : Type 0 where
  pub step :
      (rules : List (Rule ℕ)) (entries : Entries) (n : ℕ) (js : List ℕ) (top : ℕ × ℕ)
      (rest chosen : List (ℕ × ℕ)) → AreRanks entries (states_at rules n) js →
      size (entry_at entries top.0 top.1).0 ≡ size (offer product rules entries n js).0 →
      AreSome (pairs (states_at rules n) js) chosen →
      weight entries (chosen ++ rest) + 1 ≤ weight entries (top ∷ rest)
