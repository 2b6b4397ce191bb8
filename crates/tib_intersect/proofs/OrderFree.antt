-- The reached set of the pairs does not depend on the order of the rules.
use Rattle.std.specs.Prelude.{◌≡◌, ℕ, ◌+◌, ◌<◌, List, [], ◌∷◌, ◌++◌, length, zip, refl}
use Rattle.std.proofs.Common.{zero, suc, arith, ap, sym, ◌∙◌, subst, inl, inr, length-append, append-nil}
use Rattle.tib_lex.specs.Lists.{Has, Distinct, Along, IsReordering}
use Rattle.tib_grammar.specs.Sides.{holes, over}
use Rattle.tib_grammar.specs.Run.{rule_at, no_rule}
use Rattle.tib_grammar.specs.declared.Rule.{Rule}
use Rattle.tib_expand.specs.EdgeLists.{Lists}
use Rattle.tib_expand.specs.Reached.{IsNew, AfterRounds, IsReached, AreEdges, IsReachedSet}
use Rattle.tib_expand.proofs.Reaching.{in_reached}
use Rattle.tib_key_edges.specs.Ends.{key_at as pair_at}
use Rattle.tib_intersect.specs.PairEdges.{IsPairEdge}
use Rattle.tib_intersect.specs.PairGrammar.{GivesEdge}
use Rattle.tib_intersect.specs.PairLaws.{same_edge}
use Rattle.tib_intersect.specs.Intersection.{intersection, OrderIsFree, IsOneSet}
use Rattle.tib_intersect.proofs.PairOrders.{pair_laws}
use Rattle.tib_intersect.proofs.EdgesOver.{edges_below}
use Rattle.tib_lex.proofs.Members.{has_at, at_has}
use Rattle.tib_lex.proofs.Places.{distinct_at}
use Rattle.tib_lex.proofs.Alongs.{along_of, along_back}
use Rattle.tib_key_edges.proofs.Reordered.{turned, IsSameRule, turned_rule, place_in, one_place, to_one_place, lists_by}

-- edges

module _ (product : ℕ → ℕ → ℕ) (one two three four : List (Rule ℕ)) where
  abbrev IsSamePlace : ℕ × ℕ → ℕ × ℕ → Type 0
  IsSamePlace o p = IsSameRule one three o.0 p.0 × IsSameRule two four o.1 p.1

  edge_by : (key o p : ℕ × ℕ) (e : Rule (ℕ × ℕ)) → IsSamePlace o p → IsPairEdge product one two key o e → IsPairEdge product three four key p e
  edge_by key o p e s is =
      let a : rule_at one o.0 ≡ rule_at three p.0 = s.0.is in
      let b : rule_at two o.1 ≡ rule_at four p.1 = s.1.is in
      record {
        first = s.0.second;
        second = s.1.second;
        from = is.from ∙ (λ i. ((a i).left, (b i).left));
        root = is.root;
        first_root = sym (ap (λ r. r.right.label) a) ∙ is.first_root;
        second_root = sym (ap (λ r. r.right.label) b) ∙ is.second_root;
        rank = sym (ap (λ r. length (holes r.right.kids)) a) ∙ is.rank ∙ ap (λ r. length (holes r.right.kids)) b;
        left = is.left;
        right = is.right ∙ (λ i. over is.root (zip (holes (a i).right.kids) (holes (b i).right.kids)));
        costs = is.costs ∙ (λ i. product (a i).cost (b i).cost);
        within = is.within;
      }

module _ (product : ℕ → ℕ → ℕ) (one two three four : List (Rule ℕ)) (first : IsReordering one three) (second : IsReordering two four) where
  edge_to : (key o : ℕ × ℕ) (e : Rule (ℕ × ℕ)) → IsPairEdge product one two key o e → (p : ℕ × ℕ) × IsSamePlace product one two three four o p × IsPairEdge product three four key p e
  edge_to key o e is =
      let m = place_in one three first o.0 is.first in
      let n = place_in two four second o.1 is.second in
      let same : IsSamePlace product one two three four o (m.0, n.0) = (m.1, n.1) in
      ((m.0, n.0), same, edge_by product one two three four key o (m.0, n.0) e same is)

same_numbers : (o p : ℕ × ℕ) → o.0 ≡ p.0 → o.1 ≡ p.1 → o ≡ p
same_numbers o p a b = λ i. (a i, b i)

module _ (product : ℕ → ℕ → ℕ) (one two three four : List (Rule ℕ)) (first : IsReordering one three) (second : IsReordering two four) where
  edge_back : (key p : ℕ × ℕ) (e : Rule (ℕ × ℕ)) → IsPairEdge product three four key p e → (o : ℕ × ℕ) × IsSamePlace product one two three four o p × IsPairEdge product one two key o e
  edge_back key p e is =
      let r = edge_to product three four one two (turned one three first) (turned two four second) key p e is in
      (r.0, (turned_rule one three p.0 r.0.0 r.1.0, turned_rule two four p.1 r.0.1 r.1.1), r.2)

  new_to : (order : List (ℕ × ℕ)) (expanded : ℕ) (k : ℕ × ℕ) → IsNew (intersection product one two) order expanded k → IsNew (intersection product three four) order expanded k
  new_to order expanded k ((i, from, below, (o, e, is, has)), out) =
      let r = edge_to product one two three four first second (pair_at order i) o e is in
      ((i, from, below, (r.0, e, r.2, has)), out)

  lists_to : (key : ℕ × ℕ) (es : List (Rule (ℕ × ℕ))) → Lists (IsPairEdge product one two key) es → Lists (IsPairEdge product three four key) es
  lists_to key es l =
      lists_by (IsPairEdge product one two key) (IsPairEdge product three four key) (IsSamePlace product one two three four)
      (edge_to product one two three four first second key) (edge_back key)
      (λ o p q a b. same_numbers o p (one_place one three first o.0 p.0 q.0 a.0 b.0) (one_place two four second o.1 p.1 q.1 a.1 b.1))
      (λ q o p a b. same_numbers o p (to_one_place one three first q.0 o.0 p.0 a.0 b.0) (to_one_place two four second q.1 o.1 p.1 a.1 b.1)) es l

  edges_to : (order : List (ℕ × ℕ)) (n : ℕ) (es : List (Rule (ℕ × ℕ))) → AreEdges (intersection product one two) order n es → AreEdges (intersection product three four) order n es
  edges_to order zero es l = l
  edges_to order (suc n) es (front, last, is, before, l) = (front, last, is, edges_to order n front before, lists_to (pair_at order n) last l)

module _ (product : ℕ → ℕ → ℕ) (one two three four : List (Rule ℕ)) (first : IsReordering one three) (second : IsReordering two four) where
  new_back : (order : List (ℕ × ℕ)) (expanded : ℕ) (k : ℕ × ℕ) → IsNew (intersection product three four) order expanded k → IsNew (intersection product one two) order expanded k
  new_back = new_to product three four one two (turned one three first) (turned two four second)

  rounds_to : (rounds expanded : ℕ) (order : List (ℕ × ℕ)) → AfterRounds (intersection product one two) rounds expanded order → AfterRounds (intersection product three four) rounds expanded order
  rounds_to zero expanded order a = a
  rounds_to (suc rounds) expanded order (old, start, new, before, is, at, made) = (
    old,
    start,
    new,
    rounds_to rounds start old before,
    (is.0, λ k. (λ h. new_to product one two three four first second old start k ((is.1 k).0 h), λ h. (is.1 k).1 (new_back old start k h))),
    at,
    made,
  )

  reached_to : (order : List (ℕ × ℕ)) (es : List (Rule (ℕ × ℕ))) → IsReachedSet (intersection product one two) order es → IsReachedSet (intersection product three four) order es
  reached_to order es ((rounds, expanded, after, stops), all) = (
    (rounds, expanded, rounds_to rounds expanded order after, λ k h. stops k (new_back order expanded k h)),
    edges_to product one two three four first second order (length order) es all,
  )

-- the reached set is the same for rules in another order
pub order_is_free : (product : ℕ → ℕ → ℕ) → OrderIsFree product
order_is_free product one two three four first second order es h = reached_to product one two three four first second order es h

-- one reached set

module _ (product : ℕ → ℕ → ℕ) (one two : List (Rule ℕ)) where
  same_order : (order other : List (ℕ × ℕ)) → IsReached (intersection product one two) order → IsReached (intersection product one two) other → order ≡ other
  same_order order other h k =
      let a = (in_reached (intersection product one two) (pair_laws product one two) h.0 h.1 order h.2 other k).0 in
      let b = (in_reached (intersection product one two) (pair_laws product one two) k.0 k.1 other k.2 order h).0 in
      let m : length other ≡ length order + length a.0 = ap length a.1 ∙ length-append order a.0 in
      let n : length order ≡ length other + length b.0 = ap length b.1 ∙ length-append other b.0 in
      let nothing : a.0 ≡ [] = empty a.0 (omega arith) in
      sym (a.1 ∙ ap (λ (l : List (ℕ × ℕ)). order ++ l) nothing ∙ append-nil order)
    where
      empty : (l : List (ℕ × ℕ)) → length l ≡ 0 → l ≡ []
      empty [] e = refl
      empty (x ∷ xs) e = absurd (omega arith)

  -- an edge of an order is in each list of its edges
  edge_stands : (order : List (ℕ × ℕ)) (es fs : List (Rule (ℕ × ℕ))) → AreEdges (intersection product one two) order (length order) es → AreEdges (intersection product one two) order (length order) fs → (e : Rule (ℕ × ℕ)) → Has es e → Has fs e
  edge_stands order es fs a b e h =
      let l = edges_below product one two order (length order) es a in
      let m = edges_below product one two order (length order) fs b in
      let o = along_back (GivesEdge product one two order) l.origins es e l.given h in
      let f = along_of (GivesEdge product one two order) m.origins fs o.0 m.given (m.whole o.0 e o.1) in
      subst (Has fs) (same_edge product one two (pair_at order o.0.0) o.0.1 f.0 e f.1.1 o.1.1) f.2

-- two reached sets have the same order and edges
pub one_set : (product : ℕ → ℕ → ℕ) → IsOneSet product
one_set product one two order other es fs h k =
    let same = same_order product one two order other h.0 k.0 in
    (same, edge_stands product one two order es fs h.1 (subst (λ (l : List (ℕ × ℕ)). AreEdges (intersection product one two) l (length l) fs) (sym same) k.1))
