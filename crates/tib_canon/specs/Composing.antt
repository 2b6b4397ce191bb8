-- The canonical composition of two transducers.
use Rattle.tib_cost.specs.declared.Scale.{Scale}
use Rattle.std.specs.Prelude.{◌↔◌, ℕ, List, Option}
use Rattle.tib_tree.specs.Trees.{Tree, Trees}
use Rattle.tib_cost.specs.Least.{IsLeast}
use Rattle.tib_transducer.specs.Series.{IsTransducerSeries}
use Rattle.tib_transducer.specs.TransducerOf.{TransducerOf}
use Rattle.tib_transducer.specs.declared.TransducerRule.{TransducerRule}
use Rattle.tib_key_edges.specs.Composing.{HasTriple}
use Rattle.tib_key_edges.specs.Composition.{composition}
use Rattle.tib_canon.specs.TransducerConstructions.{TransducerConstruction, IsCanonicalTransducerOf, HasTransducerText}

-- the pairs of the states of two transducers, from the pair of the starts
abbrev pub composing : (ℕ → ℕ → ℕ) → TransducerOf → TransducerOf → TransducerConstruction (ℕ × ℕ) (ℕ × Trees (Option ℕ))
composing product t u = record { problem = composition product t.rules u.rules; spare = (0, 0) }

-- the new rules give each two trees t and v the least, over all trees u, of the cost of a run of
-- the first transducer from t to u times the cost of a run of the second from u to v
abbrev pub HasComposeSeries : (ℕ → ℕ → ℕ) → List (TransducerRule ℕ) → List (TransducerRule ℕ) → List (TransducerRule ℕ) → Type 0
HasComposeSeries product one two new =
    (t v : Tree ℕ) (w : Option ℕ) → IsTransducerSeries product new t v w ↔ IsLeast (HasTriple product one two t v) w

-- the text of the canonical transducer that does what the first and then the second does
abbrev pub HasComposeText : Scale → (ℕ → ℕ → ℕ) → ℕ → List (List ℕ) → TransducerOf → TransducerOf → List ℕ → Type 0
HasComposeText scale product limit labels t u text =
    HasTransducerText scale labels (IsCanonicalTransducerOf scale labels limit (composing product t u))
    (HasComposeSeries product t.rules u.rules) text
