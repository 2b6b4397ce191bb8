-- Sparse vectors of costs: an entry for each state that has a cost.
use Rattle.std.specs.Prelude.{ℕ, ◌<◌, ◌≤◌, List, [], ◌∷◌, Option, None, Some, nat_eq, if◌then◌else◌}
use Rattle.tib_lex.specs.Lists.{Ascends, Each}
use Rattle.tib_weigh.specs.declared.vector.Entry.{Entry}

-- the cost at a state
abbrev pub cost_in : List Entry → ℕ → Option ℕ
cost_in [] q = None
cost_in (e ∷ es) q = if nat_eq e.state q then Some e.cost else cost_in es q

-- the states ascend
abbrev pub IsAscending : List Entry → Type 0
IsAscending v = Ascends (λ d e. d.state < e.state) v

-- no state is above q
abbrev pub EndsBy : ℕ → List Entry → Type 0
EndsBy q v = Each (λ e. e.state ≤ q) v
