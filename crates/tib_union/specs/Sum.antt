-- The sum of two grammars, and its series.
use Rattle.std.specs.Prelude.{◌≡◌, ◌↔◌, ℕ, ◌+◌, ◌<◌, List, ◌∷◌, ◌++◌, length, map, Option}
use Rattle.tib_tree.specs.Trees.{Tree}
use Rattle.tib_cost.specs.Least.{lesser}
use Rattle.tib_grammar.specs.Sides.{Lone}
use Rattle.tib_grammar.specs.GrammarOf.{GrammarOf, named_rule}
use Rattle.tib_grammar.specs.Range.{AreInRange}
use Rattle.tib_grammar.specs.Series.{IsSeries}
use Rattle.tib_grammar.specs.declared.Rule.{Rule}
use Rattle.tib_canon.specs.Canonical.{names_of}

-- the chain rule from the fresh start, which is 0, to a state, at `one`
abbrev pub chain_to : ℕ → Rule ℕ
chain_to q = record { left = 0; right = Lone q; cost = 0 }

-- the rules with each of their states raised by a number
abbrev pub raised : ℕ → List (Rule ℕ) → List (Rule ℕ)
raised by rules = map (named_rule (λ q. by + q)) rules

-- The rules of the sum of two grammars, of which the first has n states. State 0 is a fresh start;
-- after it come the states of the first grammar, and then those of the second. There are the chain
-- rules to the starts of both, then the rules of the first, then those of the second.
abbrev pub sum_rules : ℕ → List (Rule ℕ) → List (Rule ℕ) → List (Rule ℕ)
sum_rules n one two = chain_to 1 ∷ (chain_to (1 + n) ∷ (raised 1 one ++ raised (1 + n) two))

-- The sum of two grammars. Its states have new names, so states of one name in both are two states.
abbrev pub sum_grammar : GrammarOf → GrammarOf → GrammarOf
sum_grammar one two = record {
  names = names_of (1 + length one.names + length two.names);
  rules = sum_rules (length one.names) one.rules two.rules;
}

-- the rules give each tree the lesser of the costs that two others give it; none is greater than
-- every cost
abbrev pub HasLesserSeries : (ℕ → ℕ → ℕ) → List (Rule ℕ) → List (Rule ℕ) → List (Rule ℕ) → Type 0
HasLesserSeries product one two rules =
    (t : Tree ℕ) (a b v : Option ℕ) → IsSeries product one t a → IsSeries product two t b →
    IsSeries product rules t v ↔ v ≡ lesser a b

-- the sum gives each tree the lesser of the costs of both
abbrev pub SumHasLesserSeries : (ℕ → ℕ → ℕ) → Type 0
SumHasLesserSeries product =
    (one two : GrammarOf) → 0 < length one.names → AreInRange (length one.names) one.rules →
    0 < length two.names → AreInRange (length two.names) two.rules →
    HasLesserSeries product one.rules two.rules (sum_grammar one two).rules
