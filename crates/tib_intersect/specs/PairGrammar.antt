-- The grammar of the pairs, and its series.
use Rattle.std.specs.Prelude.{◌≡◌, ℕ, ◌<◌, ◌↔◌, List, length, map, Option}
use Rattle.tib_lex.specs.Lists.{Distinct}
use Rattle.tib_tree.specs.Trees.{Tree}
use Rattle.tib_grammar.specs.Range.{AreInRange}
use Rattle.tib_grammar.specs.Series.{IsSeries}
use Rattle.tib_grammar.specs.Forms.{AreNormal}
use Rattle.tib_grammar.specs.GrammarOf.{named_rule}
use Rattle.tib_grammar.specs.declared.Rule.{Rule}
use Rattle.tib_cost.specs.Least.{times}
use Rattle.tib_expand.specs.EdgeLists.{Lists}
use Rattle.tib_key_edges.specs.Ends.{key_at as pair_at}
use Rattle.tib_intersect.specs.PairEdges.{IsPairEdge}

module _ (product : ℕ → ℕ → ℕ) (one two : List (Rule ℕ)) where
  -- the edge of a position of the order, by that position and its origin
  abbrev pub GivesEdge : List (ℕ × ℕ) → ℕ × (ℕ × ℕ) → Rule (ℕ × ℕ) → Type 0
  GivesEdge order from e = (from.0 < length order) × IsPairEdge product one two (pair_at order from.0) from.1 e

  -- The order has the pair of the starts first, and no pair twice. The rules are over its positions
  -- and are, with the pairs in place of these, exactly the edges of the pairs, each as often as
  -- origins give it. So each end of an edge is in the order.
  pub record IsPairGrammar (order : List (ℕ × ℕ)) (rules : List (Rule ℕ)) : Type 0 where
    pub long : 0 < length order
    pub start : pair_at order 0 ≡ (0, 0)
    pub once : Distinct order
    pub in_range : AreInRange (length order) rules
    pub edges : Lists (GivesEdge order) (map (named_rule (pair_at order)) rules)

-- The grammar of the pairs gives each tree the product of its two costs, and none where either is
-- none or the product is above the greatest cost.
abbrev pub PairsMean : (ℕ → ℕ → ℕ) → Type 0
PairsMean product =
    (one two : List (Rule ℕ)) → AreNormal one → AreNormal two → (order : List (ℕ × ℕ)) (rules : List (Rule ℕ)) →
    IsPairGrammar product one two order rules → (t : Tree ℕ) (a b v : Option ℕ) → IsSeries product one t a →
    IsSeries product two t b → IsSeries product rules t v ↔ v ≡ times product a b
