-- `weigh`: trees with their weights by a grammar.
use Rattle.tib_cost.specs.declared.Scale.{Scale}
use Rattle.std.specs.Prelude.{◌≡◌, ℕ, List, Option}
use Rattle.std.specs.List.{AllZip}
use Rattle.tib_tree.specs.Trees.{Tree}
use Rattle.tib_grammar.specs.GrammarOf.{GrammarOf}
use Rattle.tib_grammar.specs.Series.{IsSeries}
use Rattle.tib_operations.specs.Made.{Made, normal_form}
use Rattle.tib_operations.specs.Text.{weighed_lines}

-- The text has a line for each tree, in order, with its weight by the grammar: the series of the
-- grammar at the tree.
pub record IsWeighed (scale : Scale) (product : ℕ → ℕ → ℕ) (labels : List (List ℕ)) (g : GrammarOf) (trees : List (Tree ℕ)) (text : List ℕ) : Type 0 where
  pub costs : List (Option ℕ)
  pub weights : AllZip (λ t v. IsSeries product g.rules t v) trees costs
  pub are : text ≡ weighed_lines scale labels trees costs

-- the normal form of the grammar
abbrev pub weigh_makes : (ℕ → ℕ → ℕ) → ℕ → GrammarOf → Made
weigh_makes product limit g = normal_form product limit g
