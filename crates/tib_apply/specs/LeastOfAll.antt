-- The series of forward and backward application as least products of series.
use Rattle.std.specs.Prelude.{◌≡◌, ◌↔◌, ℕ, List, Option, Some}
use Rattle.tib_tree.specs.Trees.{Tree}
use Rattle.tib_grammar.specs.Series.{IsSeries}
use Rattle.tib_grammar.specs.declared.Rule.{Rule}
use Rattle.tib_cost.specs.Least.{IsLeast, times}
use Rattle.tib_transducer.specs.Series.{IsTransducerSeries}
use Rattle.tib_transducer.specs.declared.TransducerRule.{TransducerRule}
use Rattle.tib_apply.specs.Forward.{IsForwardSeries}
use Rattle.tib_apply.specs.Backward.{IsBackwardSeries}

-- v is the least of the costs that f gives the trees, and none where it gives none a cost
abbrev pub IsLeastOfAll : (Tree ℕ → Option ℕ) → Option ℕ → Type 0
IsLeastOfAll f v = IsLeast (λ n. (t : Tree ℕ) × (f t ≡ Some n)) v

-- forward application has at u the least, over all trees t, of the series of the grammar at t times
-- that of the transducer at t and u
abbrev pub ForwardIsLeast : (ℕ → ℕ → ℕ) → Type 0
ForwardIsLeast product =
    (grammar : List (Rule ℕ)) (moves : List (TransducerRule ℕ)) (u : Tree ℕ) (a b : Tree ℕ → Option ℕ) → ((t : Tree ℕ) → IsSeries product grammar t (a t)) →
    ((t : Tree ℕ) → IsTransducerSeries product moves t u (b t)) → (v : Option ℕ) → IsForwardSeries product grammar moves u v ↔ IsLeastOfAll (λ t. times product (a t) (b t)) v

-- backward application has at t the least, over all trees u, of the series of the transducer at t
-- and u times that of the grammar at u
abbrev pub BackwardIsLeast : (ℕ → ℕ → ℕ) → Type 0
BackwardIsLeast product =
    (moves : List (TransducerRule ℕ)) (grammar : List (Rule ℕ)) (t : Tree ℕ) (a b : Tree ℕ → Option ℕ) → ((u : Tree ℕ) → IsTransducerSeries product moves t u (a u)) →
    ((u : Tree ℕ) → IsSeries product grammar u (b u)) → (v : Option ℕ) → IsBackwardSeries product moves grammar t v ↔ IsLeastOfAll (λ u. times product (a u) (b u)) v
