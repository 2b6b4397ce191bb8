-- What a hunt of the difference returns.
use Rattle.std.specs.Prelude.{◌≡◌, ℕ, List, map}
use Rattle.tib_grammar.specs.GrammarOf.{named_rule}
use Rattle.tib_grammar.specs.declared.Rule.{Rule}
use Rattle.tib_expand.specs.Reached.{parts_of}
use Rattle.tib_expand.specs.declared.found.Found.{Found}
use Rattle.tib_difference.specs.Difference.{KeyOf, difference, key_at}
use Rattle.tib_difference.specs.Series.{IsReachedGrammar}

-- the edges that the rules stand for over the order
abbrev pub edges_of : Found KeyOf (Rule ℕ) → List (Rule KeyOf)
edges_of found = map (named_rule (key_at found.order.items)) found.rules.items

module _ (one two : List (Rule ℕ)) where
  -- the order and the rules are the reached set
  abbrev pub IsAnswer : Found KeyOf (Rule ℕ) → Type 0
  IsAnswer found = IsReachedGrammar one two found.order.items found.rules.items

  -- the parts are those of the keys and of the edges
  abbrev pub HasParts : Found KeyOf (Rule ℕ) → Type 0
  HasParts found = found.parts ≡ parts_of (difference one two) found.order.items (edges_of found)
