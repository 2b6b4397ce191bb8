-- `parse`: the trees that a tree-to-string transducer turns into one string, each at its least
-- cost.
use Rattle.tib_cost.specs.declared.Scale.{Scale}
use Rattle.std.specs.Prelude.{◌≡◌, ◌↔◌, ℕ, List, Option}
use Rattle.tib_tree.specs.Trees.{Tree}
use Rattle.tib_grammar.specs.GrammarOf.{GrammarOf}
use Rattle.tib_grammar.specs.Series.{IsSeries}
use Rattle.tib_grammar.specs.declared.Rule.{Rule}
use Rattle.tib_strings.specs.Faults.{IsFirstFault}
use Rattle.tib_strings.specs.Range.{AreLinear, AreNondeleting}
use Rattle.tib_strings.specs.Series.{IsStringSeries}
use Rattle.tib_strings.specs.StringTransducerOf.{StringTransducerOf}
use Rattle.tib_strings.specs.declared.StringRule.{StringRule}
use Rattle.tib_image.specs.ParseOperation.{parse}
use Rattle.tib_canon.specs.Constructions.{Construction, at_first, IsCanonicalFrom, HasGrammarText}
use Rattle.tib_operations.specs.Classes.{Demanded}
use Rattle.tib_operations.specs.Made.{Made, reached_set}
use Rattle.tib_operations.specs.declared.status.Status.{Status}
use Rattle.tib_operations.specs.declared.status.Status.TheVariants as statuses

-- the transducer, which is the first file, is to be linear and nondeleting
abbrev pub parse_demands : StringTransducerOf → Demanded
parse_demands t = record {
  met = AreLinear t.rules × AreNondeleting t.rules;
  broken = λ file found. (file ≡ 1) × IsFirstFault t.rules found.0 found.1;
}

-- the keys of a state of a transducer, two places of a string and a restriction, from the key of
-- the start over the whole string
abbrev pub parsing : StringTransducerOf → List ℕ → Construction (ℕ × ℕ × ℕ × ℕ) (ℕ × List ℕ)
parsing t string = record { problem = parse t.rules string; spare = (0, 0, 0, 0); begins = at_first }

-- the string is the one of the file
abbrev pub IsTheString : List ℕ → List ℕ → Type 0
IsTheString one string = string ≡ one

-- the new rules give each tree the cost that the transducer gives the tree and the string
abbrev pub HasParseSeries : (ℕ → ℕ → ℕ) → List (StringRule ℕ) → List ℕ → List (Rule ℕ) → Type 0
HasParseSeries product moves string new =
    (t : Tree ℕ) (v : Option ℕ) → IsSeries product new t v ↔ IsStringSeries product moves t string v

-- the text of the canonical grammar of the trees that are turned into the string
abbrev pub HasParseText : Scale → (ℕ → ℕ → ℕ) → ℕ → List (List ℕ) → StringTransducerOf → List ℕ → List ℕ → Type 0
HasParseText scale product limit labels t string text =
    HasGrammarText scale labels (IsCanonicalFrom product scale labels limit (IsTheString string) (parsing t))
    (HasParseSeries product t.rules string) text

-- the text is that of this canonical grammar
abbrev pub IsParseText : Scale → (ℕ → ℕ → ℕ) → ℕ → List (List ℕ) → StringTransducerOf → List ℕ → List ℕ → GrammarOf → Type 0
IsParseText scale product limit labels t string text h = (d : HasParseText scale product limit labels t string text) × (d.h ≡ h)

-- the reached set of keys; no normal form is made
abbrev pub parse_makes : ℕ → StringTransducerOf → List ℕ → Made
parse_makes limit t string = reached_set limit (IsTheString string) (parsing t)

-- Why there is no text: the first rule that breaks what is demanded; where that is met, more parts
-- than the limit; or memory was refused.
abbrev pub IsParseTextFault : ℕ → StringTransducerOf → List ℕ → Status → Type 0
IsParseTextFault limit t string (statuses.Class file rule fault) = (parse_demands t).broken file (rule, fault)
IsParseTextFault limit t string (statuses.TooMany n) = (n ≡ limit) × (parse_demands t).met × (parse_makes limit t string).more
IsParseTextFault limit t string statuses.OutOfMemory = Unit {0}
IsParseTextFault limit t string status = ⊥
