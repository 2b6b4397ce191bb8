-- `inside`: the states of a grammar with their inside costs.
use Rattle.tib_cost.specs.declared.Scale.{Scale}
use Rattle.std.specs.Prelude.{◌≡◌, ℕ, List, length, Option}
use Rattle.tib_grammar.specs.GrammarOf.{GrammarOf}
use Rattle.tib_inside.specs.Inside.{AreInsides}
use Rattle.tib_operations.specs.Made.{Made, nothing}
use Rattle.tib_operations.specs.Text.{inside_lines}

-- The text has a line for each state of the grammar, in order: its name with its inside cost.
pub record HasInsides (scale : Scale) (product : ℕ → ℕ → ℕ) (g : GrammarOf) (text : List ℕ) : Type 0 where
  pub costs : List (Option ℕ)
  pub counted : length costs ≡ length g.names
  pub insides : AreInsides product g.rules costs
  pub are : text ≡ inside_lines scale g.names costs

-- no normal form is made, so there is no limit
abbrev pub inside_makes : Made
inside_makes = nothing
