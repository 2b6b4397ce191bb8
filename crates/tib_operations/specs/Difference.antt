-- `difference`: the grammar of the trees of one that have no run in another, at their costs in the
-- first.
use Rattle.tib_cost.specs.declared.Scale.{Scale}
use Rattle.std.specs.Prelude.{◌≡◌, ℕ, max, List, []}
use Rattle.tib_grammar.specs.GrammarOf.{GrammarOf}
use Rattle.tib_canon.specs.Constructions.{Construction, fresh_with, IsCanonicalFrom, HasGrammarText}
use Rattle.tib_canon.specs.TrimmedForms.{IsTrimmedForm}
use Rattle.tib_difference.specs.Difference.{KeyOf, difference}
use Rattle.tib_difference.specs.Series.{HasDifferenceSeries, finals}
use Rattle.tib_operations.specs.Made.{Made, and_then, normal_form, reached_set}

-- the trimmed normal forms of two grammars, that of the second in Boolean
abbrev pub AreTrimmedWithSupport : (ℕ → ℕ → ℕ) → GrammarOf → GrammarOf → GrammarOf × GrammarOf → Type 0
AreTrimmedWithSupport product f g forms = IsTrimmedForm product f forms.0 × IsTrimmedForm max g forms.1

-- the states of the one with sets of states of the other, from a fresh start with a chain rule to
-- each key that has the start of the first and not that of the second
abbrev pub differing : GrammarOf × GrammarOf → Construction KeyOf (ℕ × List ℕ)
differing forms = record { problem = difference forms.0.rules forms.1.rules; spare = (0, []); begins = fresh_with (finals 0) }

-- the text of the canonical difference of two grammars, which gives each tree its cost in the first
-- where it has no run in the second, and every other tree none
abbrev pub HasDifferenceText : Scale → (ℕ → ℕ → ℕ) → ℕ → List (List ℕ) → GrammarOf → GrammarOf → List ℕ → Type 0
HasDifferenceText scale product limit labels f g text =
    HasGrammarText scale labels (IsCanonicalFrom product scale labels limit (AreTrimmedWithSupport product f g) differing)
    (HasDifferenceSeries product f.rules g.rules) text

-- the text is that of this canonical grammar
abbrev pub IsDifferenceText : Scale → (ℕ → ℕ → ℕ) → ℕ → List (List ℕ) → GrammarOf → GrammarOf → List ℕ → GrammarOf → Type 0
IsDifferenceText scale product limit labels f g text h = (d : HasDifferenceText scale product limit labels f g text) × (d.h ≡ h)

-- the normal form of the first grammar, that of the second in Boolean, and then the reached set
abbrev pub difference_makes : (ℕ → ℕ → ℕ) → ℕ → GrammarOf → GrammarOf → Made
difference_makes product limit f g =
    and_then (normal_form product limit f) (and_then (normal_form max limit g)
    (reached_set limit (AreTrimmedWithSupport product f g) differing))
