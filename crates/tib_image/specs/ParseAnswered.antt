-- What a hunt of parsing returns.
use Rattle.std.specs.Prelude.{◌≡◌, ◌↔◌, ℕ, List, length, map, Option}
use Rattle.tib_tree.specs.Trees.{Tree}
use Rattle.tib_grammar.specs.Series.{IsSeries}
use Rattle.tib_strings.specs.Series.{IsStringSeries}
use Rattle.tib_grammar.specs.GrammarOf.{named_rule}
use Rattle.tib_grammar.specs.Range.{AreInRange}
use Rattle.tib_grammar.specs.declared.Rule.{Rule}
use Rattle.tib_expand.specs.Reached.{IsReachedSet, IsBeyond, parts_of}
use Rattle.tib_expand.specs.declared.found.Found.{Found}
use Rattle.tib_transducer.specs.declared.error.ClassError.{ClassError}
use Rattle.tib_transducer.specs.declared.error.ClassError.TheVariants.{Class as OfRule, OutOfMemory as OfMemory}
use Rattle.tib_strings.specs.Faults.{IsFirstFault}
use Rattle.tib_strings.specs.Range.{AreLinear, AreNondeleting}
use Rattle.tib_strings.specs.declared.StringRule.{StringRule}
use Rattle.tib_apply.specs.declared.error.ApplyError.{ApplyError}
use Rattle.tib_apply.specs.declared.error.ApplyError.TheVariants.{Class, TooMany, OutOfMemory}
use Rattle.tib_image.specs.Parsing.{key_at}
use Rattle.tib_image.specs.ParseOperation.{parse}

-- the edges that the rules stand for over the order
abbrev pub edges_over : ℕ → Found (ℕ × ℕ × ℕ × ℕ) (Rule ℕ) → List (Rule (ℕ × ℕ × ℕ × ℕ))
edges_over n found = map (named_rule (key_at n found.order.items)) found.rules.items

-- the order and the edges are the reached set of parsing
abbrev pub IsParsed : List (StringRule ℕ) → List ℕ → Found (ℕ × ℕ × ℕ × ℕ) (Rule ℕ) → Type 0
IsParsed moves string found = IsReachedSet (parse moves string) found.order.items (edges_over (length string) found)

-- the parts are those of the keys and of the edges
abbrev pub HasParts : List (StringRule ℕ) → List ℕ → Found (ℕ × ℕ × ℕ × ℕ) (Rule ℕ) → Type 0
HasParts moves string found = found.parts ≡ parts_of (parse moves string) found.order.items (edges_over (length string) found)

-- the rules are over positions of the order
abbrev pub AreOverOrder : Found (ℕ × ℕ × ℕ × ℕ) (Rule ℕ) → Type 0
AreOverOrder found = AreInRange (length found.order.items) found.rules.items

-- the first rule that is not linear or not nondeleting, or out of memory
abbrev pub IsStringFault : List (StringRule ℕ) → ClassError → Type 0
IsStringFault moves (OfRule rule fault) = IsFirstFault moves rule fault
IsStringFault moves OfMemory = Unit {0}

-- why nothing is returned: that rule; where there is none, a limit that each reached set passes; or
-- out of memory
abbrev pub IsParseFault : List (StringRule ℕ) → List ℕ → ℕ → ApplyError → Type 0
IsParseFault moves string limit (Class rule fault) = IsFirstFault moves rule fault
IsParseFault moves string limit (TooMany n) = (n ≡ limit) × AreLinear moves × AreNondeleting moves × IsBeyond (parse moves string) limit
IsParseFault moves string limit OutOfMemory = Unit {0}

-- the rules, as a grammar, give each tree the cost that the transducer gives the tree and the
-- string
abbrev pub HasStringSeries : (ℕ → ℕ → ℕ) → List (StringRule ℕ) → List ℕ → Found (ℕ × ℕ × ℕ × ℕ) (Rule ℕ) → Type 0
HasStringSeries product moves string found = (t : Tree ℕ) (v : Option ℕ) → IsSeries product found.rules.items t v ↔ IsStringSeries product moves t string v
