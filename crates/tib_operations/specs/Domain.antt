-- `domain`: the trees that a transducer takes, each at its least cost over all outputs.
use Rattle.tib_cost.specs.declared.Scale.{Scale}
use Rattle.std.specs.Prelude.{◌≡◌, ◌↔◌, ℕ, List, [], Option}
use Rattle.tib_tree.specs.Trees.{Tree}
use Rattle.tib_grammar.specs.GrammarOf.{GrammarOf}
use Rattle.tib_grammar.specs.Series.{IsSeries}
use Rattle.tib_grammar.specs.declared.Rule.{Rule}
use Rattle.tib_transducer.specs.TransducerOf.{TransducerOf}
use Rattle.tib_transducer.specs.declared.TransducerRule.{TransducerRule}
use Rattle.tib_domain.specs.Domain.{IsDomainSeries}
use Rattle.tib_domain.specs.Reading.{domain_of}
use Rattle.tib_canon.specs.Constructions.{IsCanonicalFrom, HasGrammarText}
use Rattle.tib_operations.specs.Classes.{Demanded, demanded_of}
use Rattle.tib_operations.specs.Forward.{linear}
use Rattle.tib_operations.specs.Made.{Made}
use Rattle.tib_operations.specs.Parse.{parsing, IsTheString, parse_makes}

-- the transducer is to be linear
abbrev pub domain_demands : TransducerOf → Demanded
domain_demands t = demanded_of 1 linear t.rules

-- the new rules give each tree over the alphabet of the left sides the least cost of a run that
-- reads it, and every other tree none
abbrev pub HasDomainSeries : (ℕ → ℕ → ℕ) → List (TransducerRule ℕ) → List (Rule ℕ) → Type 0
HasDomainSeries product rules new = (t : Tree ℕ) (v : Option ℕ) → IsSeries product new t v ↔ IsDomainSeries product rules t v

-- The text of the canonical grammar of the trees that are taken: that of parsing the empty string
-- by the transducer that reads the same and puts out nothing.
abbrev pub HasDomainText : Scale → (ℕ → ℕ → ℕ) → ℕ → List (List ℕ) → TransducerOf → List ℕ → Type 0
HasDomainText scale product limit labels t text =
    HasGrammarText scale labels (IsCanonicalFrom product scale labels limit (IsTheString []) (parsing (domain_of t)))
    (HasDomainSeries product t.rules) text

-- the text is that of this canonical grammar
abbrev pub IsDomainText : Scale → (ℕ → ℕ → ℕ) → ℕ → List (List ℕ) → TransducerOf → List ℕ → GrammarOf → Type 0
IsDomainText scale product limit labels t text h = (d : HasDomainText scale product limit labels t text) × (d.h ≡ h)

-- the reached set of the keys of that parsing; no normal form is made
abbrev pub domain_makes : ℕ → TransducerOf → Made
domain_makes limit t = parse_makes limit (domain_of t) []
