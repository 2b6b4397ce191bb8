-- `union`: the grammar of the trees of two, each at the lesser of its two costs.
use Rattle.tib_cost.specs.declared.Scale.{Scale}
use Rattle.std.specs.Prelude.{◌≡◌, ℕ, List}
use Rattle.tib_grammar.specs.GrammarOf.{GrammarOf}
use Rattle.tib_canon.specs.Constructions.{HasGrammarText}
use Rattle.tib_union.specs.Sum.{sum_grammar, HasLesserSeries}
use Rattle.tib_operations.specs.Made.{Made, normal_form}
use Rattle.tib_operations.specs.Normal.{IsCanonicalNormal}

-- the text of the canonical form of the sum's normal form, which gives each tree the lesser of the
-- costs that both grammars give it
abbrev pub HasUnionText : Scale → (ℕ → ℕ → ℕ) → ℕ → List (List ℕ) → GrammarOf → GrammarOf → List ℕ → Type 0
HasUnionText scale product limit labels f g text =
    HasGrammarText scale labels (IsCanonicalNormal scale product limit labels (sum_grammar f g))
    (HasLesserSeries product f.rules g.rules) text

-- the text is that of this canonical form
abbrev pub IsUnionText : Scale → (ℕ → ℕ → ℕ) → ℕ → List (List ℕ) → GrammarOf → GrammarOf → List ℕ → GrammarOf → Type 0
IsUnionText scale product limit labels f g text h = (d : HasUnionText scale product limit labels f g text) × (d.h ≡ h)

-- the normal form of the sum
abbrev pub union_makes : (ℕ → ℕ → ℕ) → ℕ → GrammarOf → GrammarOf → Made
union_makes product limit f g = normal_form product limit (sum_grammar f g)
