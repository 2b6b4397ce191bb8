-- The edges of every position of an order, as one list by position and origin.
use Rattle.std.specs.Prelude.{ℕ, ◌<◌, List}
use Rattle.tib_lex.specs.PairOrder.{pair_cmp}
use Rattle.tib_grammar.specs.declared.Rule.{Rule}
use Rattle.tib_expand.specs.EdgeLists.{Lists}
use Rattle.tib_expand.specs.Reached.{AreEdges}
use Rattle.tib_expand.specs.Keys.{key_parts}
use Rattle.tib_key_edges.proofs.KeyOrders.{edges_below as keyed_edges}
use Rattle.tib_key_edges.specs.Ends.{key_at as pair_at}
use Rattle.tib_intersect.specs.PairEdges.{IsPairEdge, ends_of, edge_parts}
use Rattle.tib_intersect.specs.Intersection.{intersection}

-- edges position by position are a list by position and origin
pub edges_below :
    (product : ℕ → ℕ → ℕ) (one two : List (Rule ℕ)) (order : List (ℕ × ℕ)) (n : ℕ) (es : List (Rule (ℕ × ℕ))) → AreEdges (intersection product one two) order n es →
    Lists (λ (from : ℕ × (ℕ × ℕ)) (e : Rule (ℕ × ℕ)). (from.0 < n) × IsPairEdge product one two (pair_at order from.0) from.1 e) es
edges_below product one two order n es h =
    keyed_edges pair_cmp (0, 0) (IsPairEdge product one two) (λ e. ends_of e) (key_parts (λ k. 2)) (λ e. edge_parts e) order n es h
