-- What a hunt of vectors returns.
use Rattle.std.specs.Prelude.{◌≡◌, ℕ, List, map}
use Rattle.tib_grammar.specs.GrammarOf.{named_rule}
use Rattle.tib_grammar.specs.declared.Rule.{Rule}
use Rattle.tib_expand.specs.Reached.{parts_of}
use Rattle.tib_expand.specs.declared.found.Found.{Found}
use Rattle.tib_determinize.specs.Vectors.{VectorOf, vector_at}
use Rattle.tib_determinize.specs.Determinization.{determinization}
use Rattle.tib_determinize.specs.VectorGrammar.{IsDeterminized}

-- the edges that the rules stand for over the order
abbrev pub edges_of : Found VectorOf (Rule ℕ) → List (Rule VectorOf)
edges_of found = map (named_rule (vector_at found.order.items)) found.rules.items

module _ (product : ℕ → ℕ → ℕ) (rules : List (Rule ℕ)) where
  -- the order and the rules are the reached set
  abbrev pub IsAnswer : Found VectorOf (Rule ℕ) → Type 0
  IsAnswer found = IsDeterminized product rules found.order.items found.rules.items

  -- the parts are those of the vectors and of the edges
  abbrev pub HasParts : Found VectorOf (Rule ℕ) → Type 0
  HasParts found = found.parts ≡ parts_of (determinization product rules) found.order.items (edges_of found)
