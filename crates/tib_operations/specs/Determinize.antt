-- `determinize`: the grammar of the vectors of a grammar's states with residuals, in deterministic
-- form.
use Rattle.tib_cost.specs.declared.Scale.{Scale}
use Rattle.std.specs.Prelude.{◌≡◌, ℕ, List, []}
use Rattle.tib_grammar.specs.Forms.{IsDeterministic}
use Rattle.tib_grammar.specs.GrammarOf.{GrammarOf}
use Rattle.tib_grammar.specs.Series.{HaveSameSeries}
use Rattle.tib_grammar.specs.declared.Rule.{Rule}
use Rattle.tib_canon.specs.Constructions.{Construction, fresh_with, IsCanonicalFrom, HasGrammarText}
use Rattle.tib_canon.specs.TrimmedForms.{IsTrimmedForm}
use Rattle.tib_determinize.specs.Determinization.{determinization}
use Rattle.tib_determinize.specs.Started.{finals}
use Rattle.tib_determinize.specs.Vectors.{VectorOf}
use Rattle.tib_operations.specs.Made.{Made, and_then, normal_form, reached_set}

-- the vectors of the states of a grammar with residuals, from a fresh start with a chain rule to
-- each that has the grammar's start, at the start's residual there
abbrev pub determinizing : (ℕ → ℕ → ℕ) → GrammarOf → Construction VectorOf (ℕ × List ℕ)
determinizing product form = record { problem = determinization product form.rules; spare = []; begins = fresh_with (finals 0) }

-- the new rules are in deterministic form, and have the series of the rules
pub record IsDeterminizationOf (product : ℕ → ℕ → ℕ) (rules new : List (Rule ℕ)) : Type 0 where
  pub deterministic : IsDeterministic new
  pub series : HaveSameSeries product rules new

-- the text of the canonical grammar of the vectors, which is in deterministic form and has the
-- series of the grammar
abbrev pub HasDeterminizedText : Scale → (ℕ → ℕ → ℕ) → ℕ → List (List ℕ) → GrammarOf → List ℕ → Type 0
HasDeterminizedText scale product limit labels g text =
    HasGrammarText scale labels (IsCanonicalFrom product scale labels limit (IsTrimmedForm product g) (determinizing product))
    (IsDeterminizationOf product g.rules) text

-- the text is that of this canonical grammar
abbrev pub IsDeterminizedText : Scale → (ℕ → ℕ → ℕ) → ℕ → List (List ℕ) → GrammarOf → List ℕ → GrammarOf → Type 0
IsDeterminizedText scale product limit labels g text h = (d : HasDeterminizedText scale product limit labels g text) × (d.h ≡ h)

-- the normal form of the grammar, and then the reached set of vectors
abbrev pub determinize_makes : (ℕ → ℕ → ℕ) → ℕ → GrammarOf → Made
determinize_makes product limit g =
    and_then (normal_form product limit g) (reached_set limit (IsTrimmedForm product g) (determinizing product))
