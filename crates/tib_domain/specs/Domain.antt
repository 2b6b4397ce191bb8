-- The series of the domain of a transducer: what it costs to read a tree, whatever is put out.
use Rattle.std.specs.Prelude.{◌↔◌, ◌<◌, ℕ, List, [], ◌∷◌, Option, None}
use Rattle.tib_tree.specs.Trees.{Tree, only}
use Rattle.tib_cost.specs.Least.{IsLeast}
use Rattle.tib_grammar.specs.Series.{IsSeries}
use Rattle.tib_grammar.specs.declared.Rule.{Rule}
use Rattle.tib_transducer.specs.Classes.{AreLinear, AreNondeleting}
use Rattle.tib_transducer.specs.Range.{AreShaped, AreWithin}
use Rattle.tib_transducer.specs.Series.{IsTransducerCost, IsTransducerSeries}
use Rattle.tib_transducer.specs.declared.TransducerRule.{TransducerRule}
use Rattle.tib_strings.specs.Series.{IsStringSeries}
use Rattle.tib_strings.specs.declared.StringRule.{StringRule}
use Rattle.tib_apply.specs.LeastOfAll.{IsLeastOfAll}
use Rattle.tib_image.specs.Parsing.{IsParseGrammar}
use Rattle.tib_domain.specs.Alphabet.{alphabet, AreOver}
use Rattle.tib_domain.specs.Reading.{domain_rules}

-- c is the cost of a run from the start that reads the tree, whatever it puts out
abbrev pub IsReadingCost : (ℕ → ℕ → ℕ) → List (TransducerRule ℕ) → Tree ℕ → ℕ → Type 0
IsReadingCost product rules t c = (u : Tree ℕ) × IsTransducerCost product rules (0 ∷ []) (only t) (only u) c

-- The series of the domain: it gives each tree over the alphabet the least cost of a run from the
-- start that reads it, and every other tree none.
abbrev pub IsDomainSeries : (ℕ → ℕ → ℕ) → List (TransducerRule ℕ) → Tree ℕ → Option ℕ → Type 0
IsDomainSeries product rules t v = IsLeast (λ c. AreOver (alphabet rules) (only t) × IsReadingCost product rules t c) v

-- at the empty string the rules of a tree-to-string transducer give each tree that cost
abbrev pub HasDomainSeries : (ℕ → ℕ → ℕ) → List (TransducerRule ℕ) → List (StringRule ℕ) → Type 0
HasDomainSeries product rules moves =
    (t : Tree ℕ) (v : Option ℕ) → IsStringSeries product moves t [] v ↔ IsDomainSeries product rules t v

-- the rules of the domain do
abbrev pub DomainIsRead : (ℕ → ℕ → ℕ) → Type 0
DomainIsRead product =
    (any : ℕ) (rules : List (TransducerRule ℕ)) → 0 < any → AreWithin any rules →
    AreShaped rules → HasDomainSeries product rules (domain_rules any rules)

-- So does, for a linear transducer, the grammar of the keys that parsing of the empty string
-- reaches.
abbrev pub DomainIsParsed : (ℕ → ℕ → ℕ) → Type 0
DomainIsParsed product =
    (any : ℕ) (rules : List (TransducerRule ℕ)) → 0 < any → AreWithin any rules → AreShaped rules → AreLinear rules →
    (order : List (ℕ × ℕ × ℕ × ℕ)) (grammar : List (Rule ℕ)) → IsParseGrammar (domain_rules any rules) [] order grammar →
    (t : Tree ℕ) (v : Option ℕ) → IsSeries product grammar t v ↔ IsDomainSeries product rules t v

-- what the series is at a tree t, where the transducer gives t and each output its cost: over the
-- alphabet the least of these, and otherwise none
pub record IsLeastOver (product : ℕ → ℕ → ℕ) (rules : List (TransducerRule ℕ)) (t : Tree ℕ) (costs : Tree ℕ → Option ℕ) : Type 0 where
  pub over : AreOver (alphabet rules) (only t) → (v : Option ℕ) → IsDomainSeries product rules t v ↔ IsLeastOfAll costs v
  pub other : (AreOver (alphabet rules) (only t) → ⊥) → IsDomainSeries product rules t None

-- the domain gives each tree over the alphabet the least of its costs over all outputs
abbrev pub DomainIsLeast : (ℕ → ℕ → ℕ) → Type 0
DomainIsLeast product =
    (rules : List (TransducerRule ℕ)) (t : Tree ℕ) (costs : Tree ℕ → Option ℕ) →
    ((u : Tree ℕ) → IsTransducerSeries product rules t u (costs u)) → IsLeastOver product rules t costs

-- a nondeleting transducer reads trees over the alphabet alone
abbrev pub NondeletingReadsAlphabet : (ℕ → ℕ → ℕ) → Type 0
NondeletingReadsAlphabet product =
    (rules : List (TransducerRule ℕ)) → AreNondeleting rules → AreShaped rules →
    (t : Tree ℕ) (c : ℕ) → IsReadingCost product rules t c → AreOver (alphabet rules) (only t)
