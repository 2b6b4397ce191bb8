-- What a hunt of pairs returns.
use Rattle.std.specs.Prelude.{◌≡◌, ℕ, ◌<◌, List, length, map}
use Rattle.tib_grammar.specs.GrammarOf.{named_rule}
use Rattle.tib_grammar.specs.Run.{rule_at}
use Rattle.tib_grammar.specs.declared.Rule.{Rule}
use Rattle.tib_expand.specs.Reached.{IsReachedSet, parts_of}
use Rattle.tib_expand.specs.declared.found.Found.{Found}
use Rattle.tib_key_edges.specs.Ends.{key_at as pair_at}
use Rattle.tib_intersect.specs.PairGrammar.{IsPairGrammar}
use Rattle.tib_intersect.specs.Intersection.{intersection, HasRootOf}

-- the edges that the rules stand for over the order
abbrev pub edges_of : Found (ℕ × ℕ) (Rule ℕ) → List (Rule (ℕ × ℕ))
edges_of found = map (named_rule (pair_at found.order.items)) found.rules.items

module _ (product : ℕ → ℕ → ℕ) (one two : List (Rule ℕ)) where
  -- the order and the edges are the reached set of the intersection
  abbrev pub IsIntersection : Found (ℕ × ℕ) (Rule ℕ) → Type 0
  IsIntersection found = IsReachedSet (intersection product one two) found.order.items (edges_of found)

  -- the rules are the grammar of the pairs of the order
  abbrev pub IsGrammar : Found (ℕ × ℕ) (Rule ℕ) → Type 0
  IsGrammar found = IsPairGrammar product one two found.order.items found.rules.items

  -- the parts are those of the pairs and of the edges
  abbrev pub HasParts : Found (ℕ × ℕ) (Rule ℕ) → Type 0
  HasParts found = found.parts ≡ parts_of (intersection product one two) found.order.items (edges_of found)

-- the right-hand side of each rule is a label of a rule of the list, over as many states as there
abbrev pub HaveRootsOf : List (Rule ℕ) → Found (ℕ × ℕ) (Rule ℕ) → Type 0
HaveRootsOf rules found = (m : ℕ) → m < length found.rules.items → HasRootOf rules (rule_at found.rules.items m)
