-- `trim`: the rules of a grammar that are in complete runs, as its file has them.
use Rattle.tib_cost.specs.declared.Scale.{Scale}
use Rattle.std.specs.Prelude.{ℕ, List}
use Rattle.tib_grammar.specs.GrammarOf.{GrammarOf}
use Rattle.tib_grammar.specs.Series.{HaveSameSeries}
use Rattle.tib_trim.specs.Complete.{AreAllInCompleteRuns}
use Rattle.tib_trim.specs.TrimmedFile.{IsTrimmedFile}
use Rattle.tib_canon.specs.Constructions.{HasGrammarText}
use Rattle.tib_operations.specs.Made.{Made, nothing}

-- what is kept of a grammar: the rules that are in complete runs, each of which is then in a
-- complete run of those that are kept
pub record IsKept (product : ℕ → ℕ → ℕ) (g h : GrammarOf) : Type 0 where
  pub trimmed : IsTrimmedFile product g h
  pub runs : AreAllInCompleteRuns product h.rules

-- the text of what is kept, which has the series of the grammar
abbrev pub HasTrimText : Scale → (ℕ → ℕ → ℕ) → List (List ℕ) → GrammarOf → List ℕ → Type 0
HasTrimText scale product labels g text =
    HasGrammarText scale labels (IsKept product g) (HaveSameSeries product g.rules) text

-- no normal form is made, so there is no limit
abbrev pub trim_makes : Made
trim_makes = nothing
