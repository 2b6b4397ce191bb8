-- `image`: all outputs of a transducer on one tree.
use Rattle.tib_cost.specs.declared.Scale.{Scale}
use Rattle.std.specs.Prelude.{◌≡◌, ◌↔◌, ℕ, List, Option}
use Rattle.tib_tree.specs.Trees.{Tree}
use Rattle.tib_grammar.specs.GrammarOf.{GrammarOf}
use Rattle.tib_grammar.specs.Series.{IsSeries}
use Rattle.tib_grammar.specs.declared.Rule.{Rule}
use Rattle.tib_transducer.specs.Series.{IsTransducerSeries}
use Rattle.tib_transducer.specs.TransducerOf.{TransducerOf}
use Rattle.tib_transducer.specs.declared.TransducerRule.{TransducerRule}
use Rattle.tib_image.specs.Image.{image_of}
use Rattle.tib_canon.specs.Constructions.{Construction, at_first, IsCanonicalFrom, HasGrammarText}
use Rattle.tib_operations.specs.Made.{Made, reached_set}

-- the keys of the states of a transducer and the nodes of a tree, from the key of the start and the
-- root
abbrev pub imaging : TransducerOf → Tree ℕ → Construction (ℕ × ℕ) ℕ
imaging t one = record { problem = image_of t.rules one; spare = (0, 0); begins = at_first }

-- the tree is the one of the file
abbrev pub IsTheTree : Tree ℕ → Tree ℕ → Type 0
IsTheTree one tree = tree ≡ one

-- the new rules give each tree u the cost that the transducer gives the tree and u
abbrev pub HasImageSeries : (ℕ → ℕ → ℕ) → Tree ℕ → List (TransducerRule ℕ) → List (Rule ℕ) → Type 0
HasImageSeries product one moves new =
    (u : Tree ℕ) (v : Option ℕ) → IsSeries product new u v ↔ IsTransducerSeries product moves one u v

-- the text of the canonical grammar of the outputs
abbrev pub HasImageText : Scale → (ℕ → ℕ → ℕ) → ℕ → List (List ℕ) → Tree ℕ → TransducerOf → List ℕ → Type 0
HasImageText scale product limit labels one t text =
    HasGrammarText scale labels (IsCanonicalFrom product scale labels limit (IsTheTree one) (imaging t))
    (HasImageSeries product one t.rules) text

-- the text is that of this canonical grammar
abbrev pub IsImageText : Scale → (ℕ → ℕ → ℕ) → ℕ → List (List ℕ) → Tree ℕ → TransducerOf → List ℕ → GrammarOf → Type 0
IsImageText scale product limit labels one t text h = (d : HasImageText scale product limit labels one t text) × (d.h ≡ h)

-- the reached set of keys; no normal form is made
abbrev pub image_makes : ℕ → Tree ℕ → TransducerOf → Made
image_makes limit one t = reached_set limit (IsTheTree one) (imaging t)
