-- `through`: the rules that `trim` writes, each with its through cost in place of its weight.
use Rattle.tib_cost.specs.declared.Scale.{Scale}
use Rattle.std.specs.Prelude.{ℕ, List}
use Rattle.tib_grammar.specs.GrammarOf.{GrammarOf}
use Rattle.tib_trim.specs.TrimmedFile.{HasThroughCosts}
use Rattle.tib_canon.specs.Constructions.{HasGrammarText}
use Rattle.tib_operations.specs.Made.{Made, nothing}

-- the text of these rules; what they would give as a grammar has no meaning
abbrev pub HasThroughText : Scale → (ℕ → ℕ → ℕ) → List (List ℕ) → GrammarOf → List ℕ → Type 0
HasThroughText scale product labels g text =
    HasGrammarText scale labels (HasThroughCosts product g) (λ rules. Unit {0}) text

-- no normal form is made, so there is no limit
abbrev pub through_makes : Made
through_makes = nothing
