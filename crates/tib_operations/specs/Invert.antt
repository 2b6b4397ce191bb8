-- `invert`: the transducer that goes the other way.
use Rattle.tib_cost.specs.declared.Scale.{Scale}
use Rattle.std.specs.Prelude.{◌≡◌, ◌↔◌, ℕ, List, Option}
use Rattle.tib_tree.specs.Trees.{Tree}
use Rattle.tib_transducer.specs.Series.{IsTransducerSeries}
use Rattle.tib_transducer.specs.TransducerOf.{TransducerOf}
use Rattle.tib_transducer.specs.declared.TransducerRule.{TransducerRule}
use Rattle.tib_rulewise.specs.Inverse.{inverse_of}
pub use Rattle.tib_rulewise.specs.Invertible.{inverse_demands}
use Rattle.tib_canon.specs.TransducerConstructions.{HasTransducerText}
use Rattle.tib_operations.specs.Classes.{Demanded, demanded_of}
use Rattle.tib_operations.specs.Made.{Made, nothing}

-- the transducer is to be linear, nondeleting, not labelled and strict
abbrev pub invert_demands : TransducerOf → Demanded
invert_demands t = demanded_of 1 inverse_demands t.rules

-- the new rules give u and t the cost that the old ones give t and u
abbrev pub HasInverseSeries : (ℕ → ℕ → ℕ) → List (TransducerRule ℕ) → List (TransducerRule ℕ) → Type 0
HasInverseSeries product rules new =
    (t u : Tree ℕ) (v : Option ℕ) → IsTransducerSeries product new u t v ↔ IsTransducerSeries product rules t u v

-- the text of the inverse of the transducer
abbrev pub HasInvertText : Scale → (ℕ → ℕ → ℕ) → List (List ℕ) → TransducerOf → List ℕ → Type 0
HasInvertText scale product labels t text =
    HasTransducerText scale labels (λ h. h ≡ inverse_of t) (HasInverseSeries product t.rules) text

-- nothing with parts is made
abbrev pub invert_makes : Made
invert_makes = nothing
