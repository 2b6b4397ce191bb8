-- What a hunt of the image of a tree returns.
use Rattle.std.specs.Prelude.{◌≡◌, ℕ, List, length, map}
use Rattle.tib_tree.specs.Trees.{Tree}
use Rattle.tib_grammar.specs.GrammarOf.{named_rule}
use Rattle.tib_grammar.specs.Range.{AreInRange}
use Rattle.tib_grammar.specs.declared.Rule.{Rule}
use Rattle.tib_expand.specs.Reached.{IsReachedSet, parts_of}
use Rattle.tib_expand.specs.declared.found.Found.{Found}
use Rattle.tib_key_edges.specs.Ends.{key_at}
use Rattle.tib_transducer.specs.declared.TransducerRule.{TransducerRule}
use Rattle.tib_image.specs.Image.{image_of}

-- the edges that the rules stand for over the order
abbrev pub edges_of : Found (ℕ × ℕ) (Rule ℕ) → List (Rule (ℕ × ℕ))
edges_of found = map (named_rule (key_at found.order.items)) found.rules.items

-- the rules are over positions of the order
abbrev pub AreOverOrder : Found (ℕ × ℕ) (Rule ℕ) → Type 0
AreOverOrder found = AreInRange (length found.order.items) found.rules.items

module _ (moves : List (TransducerRule ℕ)) (t : Tree ℕ) where
  -- the order and the edges are the reached set
  abbrev pub IsImage : Found (ℕ × ℕ) (Rule ℕ) → Type 0
  IsImage found = IsReachedSet (image_of moves t) found.order.items (edges_of found)

  -- the parts are those of the keys and of the edges
  abbrev pub HasParts : Found (ℕ × ℕ) (Rule ℕ) → Type 0
  HasParts found = found.parts ≡ parts_of (image_of moves t) found.order.items (edges_of found)
