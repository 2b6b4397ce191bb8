-- `runs`: the transducer from the derivations of a grammar to its trees.
use Rattle.tib_cost.specs.declared.Scale.{Scale}
use Rattle.std.specs.Prelude.{◌↔◌, ℕ, List, length, Option}
use Rattle.tib_tree.specs.Trees.{Tree}
use Rattle.tib_tree.specs.Grows.{AddsAll}
use Rattle.tib_cost.specs.Least.{IsLeast}
use Rattle.tib_grammar.specs.GrammarOf.{GrammarOf}
use Rattle.tib_grammar.specs.declared.Rule.{Rule}
use Rattle.tib_transducer.specs.Series.{IsTransducerSeries}
use Rattle.tib_transducer.specs.declared.TransducerRule.{TransducerRule}
use Rattle.tib_rulewise.specs.Derivations.{rule_texts, IsDerivations}
use Rattle.tib_rulewise.specs.DerivationSeries.{IsDerivationCost}
use Rattle.tib_canon.specs.TransducerConstructions.{HasTransducerText}
use Rattle.tib_operations.specs.Made.{Made, nothing}

-- the new rules give a derivation from the start and the tree that it yields the cost of the
-- derivation, and every other two trees none
abbrev pub HasRunsSeries : (ℕ → ℕ → ℕ) → List (List ℕ) → List (Rule ℕ) → List (TransducerRule ℕ) → Type 0
HasRunsSeries product labels rules new =
    (d t : Tree ℕ) (v : Option ℕ) → IsTransducerSeries product new d t v ↔ IsLeast (IsDerivationCost product labels rules 0 d t) v

-- The text of the transducer of the derivations of the grammar, over a table that has also the
-- labels `r1`, `r2` and so on of its rules.
pub record HasRunsText (scale : Scale) (product : ℕ → ℕ → ℕ) (labels : List (List ℕ)) (g : GrammarOf) (text : List ℕ) : Type 0 where
  pub all : List (List ℕ)
  pub adds : AddsAll labels (rule_texts 1 (length g.rules)) all
  pub printed : HasTransducerText scale all (IsDerivations all g) (HasRunsSeries product all g.rules) text

-- nothing with parts is made
abbrev pub runs_makes : Made
runs_makes = nothing
