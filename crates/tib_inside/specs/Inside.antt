-- The inside costs of the states of a grammar (Knuth 1977).
use Rattle.std.specs.Prelude.{◌≡◌, ℕ, ◌<◌, List, [], ◌∷◌, length, Option, None, Some}
use Rattle.std.proofs.Common.{get_or}
use Rattle.tib_tree.specs.Trees.{Trees}
use Rattle.tib_grammar.specs.Run.{AreRuns, cost}
use Rattle.tib_grammar.specs.declared.Rule.{Rule}
use Rattle.tib_cost.specs.Least.{IsLeast, times}

-- c is the cost of some runs from the states qs, whatever they yield
pub record IsRunCost (product : ℕ → ℕ → ℕ) (rules : List (Rule ℕ)) (qs : List ℕ)
    (c : ℕ) : Type 0 where
  pub runs : Trees ℕ
  pub are_runs : AreRuns rules qs runs
  pub costs : cost product rules runs ≡ c

-- v is the inside cost of the state q: the least cost of a run from q, and none where each costs
-- more than the greatest cost. With the rules `q -> A(r s) # 0`, `r -> b # 1`, `s -> c # 4`, `s ->
-- d # 2` and `u -> B(u) # 0` the inside costs by least sum are 3 at q, 1 at r, 2 at s, and none at
-- u, which has no run.
abbrev pub IsInside : (ℕ → ℕ → ℕ) → List (Rule ℕ) → ℕ → Option ℕ → Type 0
IsInside product rules q v = IsLeast (IsRunCost product rules (q ∷ [])) v

-- these are the inside costs of the states, by number
abbrev pub AreInsides : (ℕ → ℕ → ℕ) → List (Rule ℕ) → List (Option ℕ) → Type 0
AreInsides product rules costs =
    (q : ℕ) → q < length costs → IsInside product rules q (get_or costs q None)

-- the product of the costs of some states, none where a state has none or the product is above the
-- greatest cost
abbrev pub total : (ℕ → ℕ → ℕ) → (ℕ → Option ℕ) → List ℕ → Option ℕ
total product costs [] = Some 0
total product costs (q ∷ qs) = times product (costs q) (total product costs qs)
