-- The edges of a position.
use Rattle.std.specs.Prelude.{◌≡◌, ◌↔◌, ℕ, ◌<◌, ◌≤◌, List, length, map}
use Rattle.std.proofs.Common.{arith, ◌∙◌}
use Rattle.tib_lex.specs.Lists.{Has, Each, Along}
use Rattle.tib_lex.proofs.Lists.{each_weaker}
use Rattle.tib_grammar.specs.declared.Rule.{Rule}
use Rattle.tib_expand.specs.EdgeLists.{Lists, AreListed, Exceeds, IsEnd}
use Rattle.tib_determinize.specs.declared.vector_rule.VectorRule.{VectorRule}
use Rattle.tib_determinize.specs.VectorRules.{places_of, read_places}
use Rattle.tib_difference.specs.declared.listing.KeyListing.{KeyListing}
use Rattle.tib_difference.specs.Difference.{KeyOf, IsEdgeAt, ends_of, edge_parts}
use Rattle.tib_difference.specs.OneEdge.{one_edge}
use Rattle.tib_difference.specs.Listing.{Listed, IsWithinBudget, IsListedAt, HasAll, Exceed}
use Rattle.tib_difference.specs.Tries.{tries}
use Rattle.tib_difference.proofs.Edges.{edge_of, is_listed, ends_are}
use Rattle.tib_difference.proofs.Answering.{edge_is, lists, exceeds, in_order}
use Rattle.tib_difference.proofs.PositionTries.{tried_is, is_tried, tries_once}

module _ (one two : List (Rule ℕ)) (order : List KeyOf) (n : ℕ) (low : n < length order) where
  sound : (o : ℕ × List ℕ) (e : Listed) → Has (tries one order n) o → IsListedAt one two order o e → IsEdgeAt one two order n o (edge_of order e)
  sound o e h is =
      let t = tried_is one order n low o h in
      record { up_to = t.up_to; stands = t.stands; edge = edge_is one two order o e t.below t.states is }

  whole : (o : ℕ × List ℕ) (e : Rule KeyOf) → IsEdgeAt one two order n o e → Has (tries one order n) o
  whole o e is = is_tried one order n low o (record { below = is.edge.below; states = is.edge.states; up_to = is.up_to; stands = is.stands })

  all_listed : (es : List Listed) → Along (IsListedAt one two order) (tries one order n) es → Lists (IsEdgeAt one two order n) (map (edge_of order) es)
  all_listed es a = lists one two order (IsEdgeAt one two order n) (tries one order n) (tries_once one order n low) sound whole es a

  in_reach : (o : ℕ × List ℕ) → Has (tries one order n) o → Each (λ p. p < length order) o.1
  in_reach o h = each_weaker (λ p. p ≤ n) (λ p. p < length order) o.1 (λ p l. omega (arith, l, low)) (tried_is one order n low o h).up_to

  -- the edges of the position
  pub position_edges_listed :
      (l : KeyListing) (ends : List KeyOf) (rs : List VectorRule) (parts : ℕ) → HasAll one two order (tries one order n) l → IsWithinBudget l → ends ≡ l.ends.items → rs ≡ l.rules.items → parts ≡ l.parts →
      AreListed (IsEdgeAt one two order n) edge_parts places_of read_places order ends rs parts
  position_edges_listed l ends rs parts h within e r p =
      is_listed (IsEdgeAt one two order n) order ends rs parts l h.0 h.1 within e r p
      (in_order one two order (tries one order n) h.0 in_reach h.2) (all_listed h.0 h.2)

  -- their ends
  pub position_ends : (l : KeyListing) (ends : List KeyOf) → HasAll one two order (tries one order n) l → ends ≡ l.ends.items → (k : KeyOf) → Has ends k ↔ IsEnd (IsEdgeAt one two order n) ends_of k
  position_ends l ends h e k = ends_are (IsEdgeAt one two order n) (one_edge one two order n) order h.0 ends (e ∙ h.1.ends) (all_listed h.0 h.2) k

  -- that they have more parts than the budget
  pub position_exceeds : (budget : ℕ) → Exceed one two order (tries one order n) budget → Exceeds (IsEdgeAt one two order n) edge_parts budget
  position_exceeds budget x = exceeds one two order (IsEdgeAt one two order n) (tries one order n) (tries_once one order n low) sound whole (one_edge one two order n) budget x
