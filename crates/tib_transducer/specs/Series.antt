-- The series of a transducer, and transducers whose rules cover those of another.
use Rattle.std.specs.Prelude.{◌≡◌, ◌↔◌, ℕ, ◌≤◌, List, [], ◌∷◌, Option}
use Rattle.tib_lex.specs.Lists.{Has}
use Rattle.tib_tree.specs.Trees.{Tree, Trees, only}
use Rattle.tib_cost.specs.Least.{IsLeast}
use Rattle.tib_transducer.specs.Run.{AreTransducerRuns, Reads, outputs, transducer_cost}
use Rattle.tib_transducer.specs.declared.TransducerRule.{TransducerRule}

-- c is the cost of some runs from the states ps that read the trees ts and output the trees us
pub record IsTransducerCost (product : ℕ → ℕ → ℕ) (rules : List (TransducerRule ℕ)) (ps : List ℕ)
    (ts us : Trees ℕ) (c : ℕ) : Type 0 where
  pub runs : Trees ℕ
  pub are_runs : AreTransducerRuns rules ps runs
  pub reads : Reads rules runs ts
  pub output : outputs rules runs ≡ us
  pub costs : transducer_cost product rules runs ≡ c

-- v is the series of the transducer at the state p and the trees t and u: the least cost of a run
-- from p that reads t and outputs u
abbrev pub IsTransducerSeriesAt : (ℕ → ℕ → ℕ) → List (TransducerRule ℕ) → ℕ → Tree ℕ → Tree ℕ →
    Option ℕ → Type 0
IsTransducerSeriesAt product rules p t u v =
    IsLeast (IsTransducerCost product rules (p ∷ []) (only t) (only u)) v

-- the series of the transducer, which is that at the start
abbrev pub IsTransducerSeries : (ℕ → ℕ → ℕ) → List (TransducerRule ℕ) → Tree ℕ → Tree ℕ → Option ℕ →
    Type 0
IsTransducerSeries product rules t u v = IsTransducerSeriesAt product rules 0 t u v

-- two trees have at most one value of the series, at each state
abbrev pub HasOneSeries : (ℕ → ℕ → ℕ) → List (TransducerRule ℕ) → Type 0
HasOneSeries product rules =
    (p : ℕ) (t u : Tree ℕ) (v w : Option ℕ) →
    IsTransducerSeriesAt product rules p t u v → IsTransducerSeriesAt product rules p t u w → v ≡ w

-- some rule agrees with r in its state and both sides, and costs no more
pub record HasCheaper (rules : List (TransducerRule ℕ)) (r : TransducerRule ℕ) : Type 0 where
  pub rule : TransducerRule ℕ
  pub stands : Has rules rule
  pub state : rule.state ≡ r.state
  pub left : rule.left ≡ r.left
  pub right : rule.right ≡ r.right
  pub costs : rule.cost ≤ r.cost

-- for each rule of the one list the other has one that is as cheap
abbrev pub Covers : List (TransducerRule ℕ) → List (TransducerRule ℕ) → Type 0
Covers other one = (r : TransducerRule ℕ) → Has one r → HasCheaper other r

-- both lists of rules have the same series, at each state
abbrev pub HaveSameSeries : (ℕ → ℕ → ℕ) → List (TransducerRule ℕ) → List (TransducerRule ℕ) → Type 0
HaveSameSeries product one two =
    (p : ℕ) (t u : Tree ℕ) (v : Option ℕ) →
    IsTransducerSeriesAt product one p t u v ↔ IsTransducerSeriesAt product two p t u v
