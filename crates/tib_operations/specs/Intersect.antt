-- `intersect`: the intersection of two grammars.
use Rattle.tib_cost.specs.declared.Scale.{Scale}
use Rattle.std.specs.Prelude.{◌≡◌, ℕ, List}
use Rattle.tib_grammar.specs.GrammarOf.{GrammarOf}
pub use Rattle.tib_grammar.specs.Series.{HasProductSeries}
use Rattle.tib_canon.specs.Constructions.{Construction, at_first, IsCanonicalFrom, HasGrammarText}
use Rattle.tib_canon.specs.TrimmedForms.{IsTrimmedForm}
use Rattle.tib_intersect.specs.Intersection.{intersection}
use Rattle.tib_operations.specs.Made.{Made, and_then, normal_form, reached_set}

-- the trimmed normal forms of two grammars
abbrev pub AreTrimmedForms : (ℕ → ℕ → ℕ) → GrammarOf → GrammarOf → GrammarOf × GrammarOf → Type 0
AreTrimmedForms product f g forms = IsTrimmedForm product f forms.0 × IsTrimmedForm product g forms.1

-- the pairs of the states of two grammars, from the pair of the starts
abbrev pub intersecting : (ℕ → ℕ → ℕ) → GrammarOf × GrammarOf → Construction (ℕ × ℕ) (ℕ × ℕ)
intersecting product forms = record { problem = intersection product forms.0.rules forms.1.rules; spare = (0, 0); begins = at_first }

-- the text of the canonical intersection of two grammars, which gives each tree the product of its
-- two costs
abbrev pub HasIntersectionText : Scale → (ℕ → ℕ → ℕ) → ℕ → List (List ℕ) → GrammarOf → GrammarOf → List ℕ → Type 0
HasIntersectionText scale product limit labels f g text =
    HasGrammarText scale labels (IsCanonicalFrom product scale labels limit (AreTrimmedForms product f g) (intersecting product))
    (HasProductSeries product f.rules g.rules) text

-- the text is that of this canonical grammar
abbrev pub IsIntersectionText : Scale → (ℕ → ℕ → ℕ) → ℕ → List (List ℕ) → GrammarOf → GrammarOf → List ℕ → GrammarOf → Type 0
IsIntersectionText scale product limit labels f g text h = (d : HasIntersectionText scale product limit labels f g text) × (d.h ≡ h)

-- the normal forms of both grammars, and then the reached set of pairs
abbrev pub intersect_makes : (ℕ → ℕ → ℕ) → ℕ → GrammarOf → GrammarOf → Made
intersect_makes product limit f g =
    and_then (normal_form product limit f) (and_then (normal_form product limit g)
    (reached_set limit (AreTrimmedForms product f g) (intersecting product)))
