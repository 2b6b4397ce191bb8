-- `normal`: the normal form of a grammar.
use Rattle.tib_cost.specs.declared.Scale.{Scale}
use Rattle.std.specs.Prelude.{◌≡◌, ℕ, ◌≤◌, List, length}
use Rattle.tib_grammar.specs.GrammarOf.{GrammarOf}
use Rattle.tib_normal.specs.NormalForm.{IsNormalForm, normal_parts}
use Rattle.tib_canon.specs.Canonical.{IsCanonical}
use Rattle.tib_canon.specs.Constructions.{HasGrammarText}
use Rattle.tib_operations.specs.Made.{Made, normal_form}
use Rattle.tib_grammar.specs.Series.{HaveSameSeries}

-- the canonical form of a normal form of a grammar, which is within the limit
pub record IsCanonicalNormal (scale : Scale) (product : ℕ → ℕ → ℕ) (limit : ℕ) (labels : List (List ℕ)) (g h : GrammarOf) : Type 0 where
  pub normal : GrammarOf
  pub form : IsNormalForm product (length g.names) g.rules (length normal.names) normal.rules
  pub within : normal_parts (length normal.names) normal.rules ≤ limit
  pub canonical : IsCanonical product scale labels normal h

-- the text of that form, which has the series of the grammar
abbrev pub HasNormalText : Scale → (ℕ → ℕ → ℕ) → ℕ → List (List ℕ) → GrammarOf → List ℕ → Type 0
HasNormalText scale product limit labels g text =
    HasGrammarText scale labels (IsCanonicalNormal scale product limit labels g) (HaveSameSeries product g.rules) text

-- the text is that of this canonical form
abbrev pub IsNormalText : Scale → (ℕ → ℕ → ℕ) → ℕ → List (List ℕ) → GrammarOf → List ℕ → GrammarOf → Type 0
IsNormalText scale product limit labels g text h = (d : HasNormalText scale product limit labels g text) × (d.h ≡ h)

-- the normal form of the grammar
abbrev pub normal_makes : (ℕ → ℕ → ℕ) → ℕ → GrammarOf → Made
normal_makes product limit g = normal_form product limit g
