-- The image of one tree: all outputs of a transducer on it, each at its least cost.
use Rattle.std.specs.Prelude.{◌≡◌, ℕ, ◌+◌, ◌<◌, ◌↔◌, List, length, map, Option}
use Rattle.std.proofs.Common.{get_or}
use Rattle.std.specs.Ordering.{nat_cmp, ordering_then}
use Rattle.std.specs.declared.cmp.Ordering.{Ordering}
use Rattle.tib_lex.specs.Lists.{Has, Distinct}
use Rattle.tib_tree.specs.Trees.{Tree, size}
use Rattle.tib_grammar.specs.Sides.{holes_of, side_map}
use Rattle.tib_grammar.specs.Range.{AreInRange}
use Rattle.tib_grammar.specs.GrammarOf.{named_rule}
use Rattle.tib_grammar.specs.Series.{IsSeries}
use Rattle.tib_grammar.specs.declared.Rule.{Rule}
use Rattle.tib_expand.specs.EdgeLists.{Lists}
use Rattle.tib_expand.specs.Reached.{Exploration, IsReachedSet}
use Rattle.tib_expand.specs.Keys.{key_parts}
use Rattle.tib_key_edges.specs.Keyed.{keyed}
use Rattle.tib_key_edges.specs.Ends.{key_at}
use Rattle.tib_transducer.specs.Rules.{transducer_rule}
use Rattle.tib_transducer.specs.Range.{AreShaped}
use Rattle.tib_transducer.specs.Series.{IsTransducerSeries}
use Rattle.tib_transducer.specs.declared.Pair.{Pair}
use Rattle.tib_transducer.specs.declared.TransducerRule.{TransducerRule}
use Rattle.tib_image.specs.Nodes.{MatchesAt, nodes_of}

-- A key is a state of the transducer and a node of the tree.

-- the key of a pair of the right-hand side, where the variables of the left-hand side are at these
-- nodes
abbrev pub pair_key : List ℕ → Pair ℕ → ℕ × ℕ
pair_key nodes x = (x.state, get_or nodes x.variable 0)

-- An edge of the key of a state and a node: a rule of the state whose left-hand side matches the
-- subtree at the node. It leads to the right-hand side, in which each pair is the key of its state
-- and of the node of its variable, at the cost of the rule. Its origin is the position of the rule.
pub record IsImageEdge (moves : List (TransducerRule ℕ)) (t : Tree ℕ) (key : ℕ × ℕ) (origin : ℕ) (e : Rule (ℕ × ℕ)) : Type 0 where
  pub below : origin < length moves
  pub state : (transducer_rule moves origin).state ≡ key.0
  pub matches : MatchesAt (transducer_rule moves origin).left t key.1
  pub left : e.left ≡ key
  pub right : e.right ≡ side_map (pair_key (nodes_of (transducer_rule moves origin).left t key.1)) (transducer_rule moves origin).right
  pub costs : e.cost ≡ (transducer_rule moves origin).cost

-- keys by the state, and then by the node
abbrev pub key_cmp : ℕ × ℕ → ℕ × ℕ → Ordering
key_cmp x y = ordering_then (nat_cmp x.0 y.0) (nat_cmp x.1 y.1)

-- a key has its two numbers for entries
abbrev pub key_entries : ℕ × ℕ → ℕ
key_entries k = 2

-- the parts of an edge: one, and the nodes of its right-hand side
abbrev pub edge_parts : Rule (ℕ × ℕ) → ℕ
edge_parts e = 1 + size e.right

-- The image of a tree as what is hunted: from the key of the start and the root each key leads on
-- along its edges.
abbrev pub image_of : List (TransducerRule ℕ) → Tree ℕ → Exploration (ℕ × ℕ) ℕ (Rule (ℕ × ℕ))
image_of moves t = keyed key_cmp (0, 0) (IsImageEdge moves t) (λ e. holes_of e.right) (key_parts key_entries) edge_parts

-- the edge of a position of the order, by that position and its origin
abbrev pub GivesEdge : List (TransducerRule ℕ) → Tree ℕ → List (ℕ × ℕ) → ℕ × ℕ → Rule (ℕ × ℕ) → Type 0
GivesEdge moves t order from e = (from.0 < length order) × IsImageEdge moves t (key_at order from.0) from.1 e

-- The grammar of the keys of an order: the order has the key of the start and the root first, and
-- no key twice. The rules are over its positions and are, with the keys in place of these, exactly
-- the edges of the keys, each as often as origins give it. So each end of an edge is in the order.
pub record IsImageGrammar (moves : List (TransducerRule ℕ)) (t : Tree ℕ) (order : List (ℕ × ℕ)) (rules : List (Rule ℕ)) : Type 0 where
  pub long : 0 < length order
  pub start : key_at order 0 ≡ (0, 0)
  pub once : Distinct order
  pub in_range : AreInRange (length order) rules
  pub edges : Lists (GivesEdge moves t order) (map (named_rule (key_at order)) rules)

-- That grammar gives each tree the cost that the transducer gives the tree and it. The transducer
-- may copy, delete, be extended and be labelled.
abbrev pub ImageMeans : (ℕ → ℕ → ℕ) → Type 0
ImageMeans product =
    (moves : List (TransducerRule ℕ)) → AreShaped moves → (t : Tree ℕ) (order : List (ℕ × ℕ)) (rules : List (Rule ℕ)) → IsImageGrammar moves t order rules →
    (u : Tree ℕ) (v : Option ℕ) → IsSeries product rules u v ↔ IsTransducerSeries product moves t u v

-- the reached set, as rules over the positions of its order, is that grammar
abbrev pub ImageIsReached : Type 0
ImageIsReached =
    (moves : List (TransducerRule ℕ)) (t : Tree ℕ) (order : List (ℕ × ℕ)) (rules : List (Rule ℕ)) → AreInRange (length order) rules →
    IsReachedSet (image_of moves t) order (map (named_rule (key_at order)) rules) → IsImageGrammar moves t order rules

-- two reached sets have the same keys, in the same order, and the same edges
abbrev pub OneImageSet : Type 0
OneImageSet =
    (moves : List (TransducerRule ℕ)) (t : Tree ℕ) (order other : List (ℕ × ℕ)) (edges more : List (Rule (ℕ × ℕ))) →
    IsReachedSet (image_of moves t) order edges → IsReachedSet (image_of moves t) other more →
    (order ≡ other) × ((e : Rule (ℕ × ℕ)) → Has edges e → Has more e)
