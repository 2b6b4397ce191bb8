-- `backward`: the trees that a transducer turns into those of a grammar.
use Rattle.tib_cost.specs.declared.Scale.{Scale}
use Rattle.std.specs.Prelude.{◌≡◌, ◌↔◌, ℕ, List, Option, true, false}
use Rattle.tib_tree.specs.Trees.{Tree}
use Rattle.tib_grammar.specs.GrammarOf.{GrammarOf}
use Rattle.tib_grammar.specs.Series.{IsSeries}
use Rattle.tib_grammar.specs.declared.Rule.{Rule}
use Rattle.tib_transducer.specs.TransducerOf.{TransducerOf}
use Rattle.tib_transducer.specs.declared.TransducerRule.{TransducerRule}
use Rattle.tib_transducer.specs.Outside.{Demands, demands}
use Rattle.tib_apply.specs.Backward.{IsBackwardSeries}
use Rattle.tib_apply.specs.Operations.{inverse_image}
use Rattle.tib_canon.specs.Constructions.{Construction, at_first, IsCanonicalFrom, HasGrammarText}
use Rattle.tib_canon.specs.TrimmedForms.{IsTrimmedForm}
use Rattle.tib_operations.specs.Classes.{Demanded, demanded_of}
use Rattle.tib_operations.specs.Made.{Made, and_then, normal_form, reached_set}

-- the transducer, which is the first file, is to be linear and nondeleting
abbrev pub linear_nondeleting : Demands
linear_nondeleting = demands true true false false false

abbrev pub backward_demands : TransducerOf → Demanded
backward_demands t = demanded_of 1 linear_nondeleting t.rules

-- the keys of the states of a transducer and of a grammar, from the key of the starts
abbrev pub inverting : (ℕ → ℕ → ℕ) → TransducerOf → GrammarOf → Construction (ℕ × ℕ × ℕ) (ℕ × List ℕ)
inverting product t form = record { problem = inverse_image product t.rules form.rules; spare = (0, 0, 0); begins = at_first }

-- the new rules give each tree t the least, over all trees u, of the cost of t and u by the
-- transducer times the cost of u by the rules of the grammar
abbrev pub HasBackwardSeries : (ℕ → ℕ → ℕ) → List (TransducerRule ℕ) → List (Rule ℕ) → List (Rule ℕ) → Type 0
HasBackwardSeries product moves rules new =
    (t : Tree ℕ) (v : Option ℕ) → IsSeries product new t v ↔ IsBackwardSeries product moves rules t v

-- the text of the canonical grammar of the inputs
abbrev pub HasBackwardText : Scale → (ℕ → ℕ → ℕ) → ℕ → List (List ℕ) → TransducerOf → GrammarOf → List ℕ → Type 0
HasBackwardText scale product limit labels t g text =
    HasGrammarText scale labels (IsCanonicalFrom product scale labels limit (IsTrimmedForm product g) (inverting product t))
    (HasBackwardSeries product t.rules g.rules) text

-- the text is that of this canonical grammar
abbrev pub IsBackwardText : Scale → (ℕ → ℕ → ℕ) → ℕ → List (List ℕ) → TransducerOf → GrammarOf → List ℕ → GrammarOf → Type 0
IsBackwardText scale product limit labels t g text h = (d : HasBackwardText scale product limit labels t g text) × (d.h ≡ h)

-- the normal form of the grammar, and then the reached set of keys
abbrev pub backward_makes : (ℕ → ℕ → ℕ) → ℕ → TransducerOf → GrammarOf → Made
backward_makes product limit t g =
    and_then (normal_form product limit g) (reached_set limit (IsTrimmedForm product g) (inverting product t))
