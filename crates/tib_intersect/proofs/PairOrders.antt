-- The order of the pairs by rounds: it begins with the pair of the starts, and has no pair twice.
use Rattle.std.specs.Prelude.{◌≡◌, ℕ, List, ◌∷◌}
use Rattle.tib_lex.specs.Lists.{Distinct}
use Rattle.tib_lex.specs.PairOrder.{pair_cmp}
use Rattle.tib_lex.proofs.PairOrder.{pair_total}
use Rattle.tib_grammar.specs.declared.Rule.{Rule}
use Rattle.tib_expand.specs.Reached.{AfterRounds}
use Rattle.tib_expand.specs.Keys.{key_parts}
use Rattle.tib_expand.proofs.Reaching.{Laws}
use Rattle.tib_key_edges.proofs.KeyOrders.{order_begins as keyed_begins, order_once as keyed_once, op_laws}
use Rattle.tib_intersect.specs.PairEdges.{IsPairEdge, ends_of, edge_parts}
use Rattle.tib_intersect.specs.PairLaws.{same_edge}
use Rattle.tib_intersect.specs.Intersection.{intersection}

module _ (product : ℕ → ℕ → ℕ) (one two : List (Rule ℕ)) where
  -- the laws of the intersection
  pub pair_laws : Laws (intersection product one two)
  pair_laws =
      op_laws pair_cmp (0, 0) (IsPairEdge product one two) (λ e. ends_of e) (key_parts (λ k. 2)) (λ e. edge_parts e) pair_total
      (λ k o e f a b. same_edge product one two k o e f a b)

  -- no pair occurs twice in an order
  pub order_once : (rounds expanded : ℕ) (order : List (ℕ × ℕ)) → AfterRounds (intersection product one two) rounds expanded order → Distinct order
  order_once rounds expanded order h =
      keyed_once pair_cmp (0, 0) (IsPairEdge product one two) (λ e. ends_of e) (key_parts (λ k. 2)) (λ e. edge_parts e) pair_total rounds expanded order h

  -- each order begins with the pair of the starts
  pub order_begins : (rounds expanded : ℕ) (order : List (ℕ × ℕ)) → AfterRounds (intersection product one two) rounds expanded order → (rest : List (ℕ × ℕ)) × (order ≡ (0, 0) ∷ rest)
  order_begins rounds expanded order h =
      keyed_begins pair_cmp (0, 0) (IsPairEdge product one two) (λ e. ends_of e) (key_parts (λ k. 2)) (λ e. edge_parts e) pair_total rounds expanded order h
