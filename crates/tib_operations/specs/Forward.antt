-- `forward`: the trees into which a transducer turns those of a grammar.
use Rattle.tib_cost.specs.declared.Scale.{Scale}
use Rattle.std.specs.Prelude.{◌≡◌, ◌↔◌, ℕ, List, Option, true, false}
use Rattle.tib_tree.specs.Trees.{Tree}
use Rattle.tib_grammar.specs.GrammarOf.{GrammarOf}
use Rattle.tib_grammar.specs.Series.{IsSeries}
use Rattle.tib_grammar.specs.declared.Rule.{Rule}
use Rattle.tib_transducer.specs.TransducerOf.{TransducerOf}
use Rattle.tib_transducer.specs.declared.TransducerRule.{TransducerRule}
use Rattle.tib_transducer.specs.Outside.{Demands, demands}
use Rattle.tib_apply.specs.Forward.{IsForwardSeries}
use Rattle.tib_apply.specs.Operations.{forward_image}
use Rattle.tib_canon.specs.Constructions.{Construction, at_first, IsCanonicalFrom, HasGrammarText}
use Rattle.tib_canon.specs.TrimmedForms.{IsTrimmedForm}
use Rattle.tib_operations.specs.Classes.{Demanded, demanded_of}
use Rattle.tib_operations.specs.Made.{Made, and_then, normal_form, reached_set}

-- the transducer, which is the second file, is to be linear
abbrev pub linear : Demands
linear = demands true false false false false

abbrev pub forward_demands : TransducerOf → Demanded
forward_demands t = demanded_of 2 linear t.rules

-- the keys of the states of a grammar and of a transducer, from the key of the starts
abbrev pub forwarding : (ℕ → ℕ → ℕ) → TransducerOf → GrammarOf → Construction (ℕ × ℕ × ℕ) (ℕ × List ℕ)
forwarding product t form = record { problem = forward_image product form.rules t.rules; spare = (0, 0, 0); begins = at_first }

-- the new rules give each tree u the least, over all trees t, of the cost of t by the rules of the
-- grammar times the cost of t and u by the transducer
abbrev pub HasForwardSeries : (ℕ → ℕ → ℕ) → List (Rule ℕ) → List (TransducerRule ℕ) → List (Rule ℕ) → Type 0
HasForwardSeries product rules moves new =
    (u : Tree ℕ) (v : Option ℕ) → IsSeries product new u v ↔ IsForwardSeries product rules moves u v

-- the text of the canonical grammar of the outputs
abbrev pub HasForwardText : Scale → (ℕ → ℕ → ℕ) → ℕ → List (List ℕ) → GrammarOf → TransducerOf → List ℕ → Type 0
HasForwardText scale product limit labels g t text =
    HasGrammarText scale labels (IsCanonicalFrom product scale labels limit (IsTrimmedForm product g) (forwarding product t))
    (HasForwardSeries product g.rules t.rules) text

-- the text is that of this canonical grammar
abbrev pub IsForwardText : Scale → (ℕ → ℕ → ℕ) → ℕ → List (List ℕ) → GrammarOf → TransducerOf → List ℕ → GrammarOf → Type 0
IsForwardText scale product limit labels g t text h = (d : HasForwardText scale product limit labels g t text) × (d.h ≡ h)

-- the normal form of the grammar, and then the reached set of keys
abbrev pub forward_makes : (ℕ → ℕ → ℕ) → ℕ → GrammarOf → TransducerOf → Made
forward_makes product limit g t =
    and_then (normal_form product limit g) (reached_set limit (IsTrimmedForm product g) (forwarding product t))
