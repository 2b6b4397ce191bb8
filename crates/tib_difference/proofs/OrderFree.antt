-- The reached set does not depend on the order of the rules.
use Rattle.std.specs.Prelude.{◌≡◌, ℕ, ◌<◌, List, [], ◌∷◌, length, refl}
use Rattle.std.proofs.Common.{zero, suc, ap, sym, ◌∙◌, subst, inl, inr}
use Rattle.tib_lex.specs.Lists.{Has, Distinct, Along, IsReordering}
use Rattle.tib_lex.proofs.Members.{has_at, at_has}
use Rattle.tib_lex.proofs.Places.{distinct_at}
use Rattle.tib_key_edges.proofs.Reordered.{turned, IsSameRule, turned_rule, place_in, one_place, to_one_place, lists_by}
use Rattle.tib_grammar.specs.Sides.{holes}
use Rattle.tib_grammar.specs.Run.{rule_at, no_rule}
use Rattle.tib_grammar.specs.declared.Rule.{Rule}
use Rattle.tib_expand.specs.EdgeLists.{Lists}
use Rattle.tib_expand.specs.Reached.{IsNew, AfterRounds, AreEdges}
use Rattle.tib_difference.specs.Subsets.{SubsetOf, AreIn, LeadsTo, IsSubset}
use Rattle.tib_difference.specs.Difference.{KeyOf, subsets_of, keys_at, IsEdgeOver, IsSeedEdge, IsEdgeAt, IsSeed, difference, OrderIsFree}

-- lists of rules that differ in their order

module _ (xs ys : List (Rule ℕ)) (d : IsReordering xs ys) where
  -- the same states lead to a label
  leads_to : (f : ℕ) (vs : List SubsetOf) (q : ℕ) → LeadsTo xs f vs q → LeadsTo ys f vs q
  leads_to f vs q l =
      let n = place_in xs ys d l.rule l.below in
      let is : rule_at xs l.rule ≡ rule_at ys n.0 = n.1.is in
      record {
        rule = n.0;
        below = n.1.second;
        left = sym (ap (λ r. r.left) is) ∙ l.left;
        root = sym (ap (λ r. r.right.label) is) ∙ l.root;
        states = subst (λ (r : Rule ℕ). AreIn (holes r.right.kids) vs) is l.states;
      }

-- and their set is the same
subset_to : (xs ys : List (Rule ℕ)) → IsReordering xs ys → (f : ℕ) (vs : List SubsetOf) (v : SubsetOf) → IsSubset xs f vs v → IsSubset ys f vs v
subset_to xs ys d f vs v s = record {
  ascends = s.ascends;
  states = λ q. (λ h. leads_to xs ys d f vs q ((s.states q).0 h), λ l. (s.states q).1 (leads_to ys xs (turned xs ys d) f vs q l));
}

-- origins with the same numbers and positions
same_origins : (o p : ℕ × List ℕ) → o.0 ≡ p.0 → o.1 ≡ p.1 → o ≡ p
same_origins o p a b = λ i. (a i, b i)

module _ (one two three four : List (Rule ℕ)) (first : IsReordering one three) (second : IsReordering two four) where
  -- one rule, and the same positions
  abbrev IsSamePlace : ℕ × List ℕ → ℕ × List ℕ → Type 0
  IsSamePlace o p = IsSameRule one three o.0 p.0 × (o.1 ≡ p.1)

  edge_over : (m n : ℕ) (keys : List KeyOf) (e : Rule KeyOf) → IsSameRule one three m n → IsEdgeOver one two m keys e → IsEdgeOver three four n keys e
  edge_over m n keys e s is =
      let a : rule_at one m ≡ rule_at three n = s.is in
      record {
        below = s.second;
        root = is.root;
        is_root = sym (ap (λ r. r.right.label) a) ∙ is.is_root;
        states = sym (ap (λ r. holes r.right.kids) a) ∙ is.states;
        left = is.left ∙ ap (λ r. r.left) a;
        subset = subset_to two four second is.root (subsets_of keys) e.left.1 is.subset;
        right = is.right;
        cost = is.cost ∙ ap (λ r. r.cost) a;
      }

  edge_to : (m : ℕ) (keys : List KeyOf) (e : Rule KeyOf) → IsEdgeOver one two m keys e → (n : ℕ) × IsSameRule one three m n × IsEdgeOver three four n keys e
  edge_to m keys e is =
      let n = place_in one three first m is.below in
      (n.0, n.1, edge_over m n.0 keys e n.1 is)

  seed_to : (k : KeyOf) → IsSeed one two k → IsSeed three four k
  seed_to k (m, e, is, at) = let n = edge_to m [] e is in (n.0, e, n.2, at)

  seed_edge_to : (o : ℕ × List ℕ) (e : Rule KeyOf) → IsSeedEdge one two o e → (p : ℕ × List ℕ) × IsSamePlace o p × IsSeedEdge three four p e
  seed_edge_to o e is =
      let n = edge_to o.0 [] e is.edge in
      ((n.0, o.1), (n.1, refl), record { none = is.none; edge = n.2 })

  edge_at_to : (order : List KeyOf) (i : ℕ) (o : ℕ × List ℕ) (e : Rule KeyOf) → IsEdgeAt one two order i o e → (p : ℕ × List ℕ) × IsSamePlace o p × IsEdgeAt three four order i p e
  edge_at_to order i o e is =
      let n = edge_to o.0 (keys_at order o.1) e is.edge in
      ((n.0, o.1), (n.1, refl), record { up_to = is.up_to; stands = is.stands; edge = n.2 })

  new_to : (order : List KeyOf) (expanded : ℕ) (k : KeyOf) → IsNew (difference one two) order expanded k → IsNew (difference three four) order expanded k
  new_to order expanded k ((i, from, below, (o, e, is, has)), out) =
      let r = edge_at_to order i o e is in
      ((i, from, below, (r.0, e, r.2, has)), out)

module _ (one two three four : List (Rule ℕ)) (first : IsReordering one three) (second : IsReordering two four) where
  abbrev front : IsReordering three one
  front = turned one three first

  abbrev back : IsReordering four two
  back = turned two four second

  seed_edge_back : (p : ℕ × List ℕ) (e : Rule KeyOf) → IsSeedEdge three four p e → (o : ℕ × List ℕ) × IsSamePlace one two three four first second o p × IsSeedEdge one two o e
  seed_edge_back p e is =
      let r = seed_edge_to three four one two front back p e is in
      (r.0, (turned_rule one three p.0 r.0.0 r.1.0, sym r.1.1), r.2)

  edge_at_back : (order : List KeyOf) (i : ℕ) (p : ℕ × List ℕ) (e : Rule KeyOf) → IsEdgeAt three four order i p e → (o : ℕ × List ℕ) × IsSamePlace one two three four first second o p × IsEdgeAt one two order i o e
  edge_at_back order i p e is =
      let r = edge_at_to three four one two front back order i p e is in
      (r.0, (turned_rule one three p.0 r.0.0 r.1.0, sym r.1.1), r.2)

  from_one : (o p q : ℕ × List ℕ) → IsSamePlace one two three four first second o q → IsSamePlace one two three four first second p q → o ≡ p
  from_one o p q a b = same_origins o p (one_place one three first o.0 p.0 q.0 a.0 b.0) (a.1 ∙ sym b.1)

  to_one : (q o p : ℕ × List ℕ) → IsSamePlace one two three four first second q o → IsSamePlace one two three four first second q p → o ≡ p
  to_one q o p a b = same_origins o p (to_one_place one three first q.0 o.0 p.0 a.0 b.0) (sym a.1 ∙ b.1)

  edges_to : (order : List KeyOf) (n : ℕ) (es : List (Rule KeyOf)) → AreEdges (difference one two) order n es → AreEdges (difference three four) order n es
  edges_to order zero es l =
      lists_by (IsSeedEdge one two) (IsSeedEdge three four) (IsSamePlace one two three four first second)
      (seed_edge_to one two three four first second) seed_edge_back from_one to_one es l
  edges_to order (suc n) es (front_edges, last, is, before, l) = (
    front_edges,
    last,
    is,
    edges_to order n front_edges before,
    lists_by (IsEdgeAt one two order n) (IsEdgeAt three four order n) (IsSamePlace one two three four first second)
        (edge_at_to one two three four first second order n) (edge_at_back order n) from_one to_one last l,
  )

  rounds_to : (rounds expanded : ℕ) (order : List KeyOf) → AfterRounds (difference one two) rounds expanded order → AfterRounds (difference three four) rounds expanded order
  rounds_to zero expanded order (none, (ascending, seeds)) =
      (none, (ascending, λ k. (λ h. seed_to one two three four first second k ((seeds k).0 h), λ s. (seeds k).1 (seed_to three four one two front back k s))))
  rounds_to (suc rounds) expanded order (old, start, new, before, is, at, made) = (
    old,
    start,
    new,
    rounds_to rounds start old before,
    (
      is.0,
      λ k. (
        λ h. new_to one two three four first second old start k ((is.1 k).0 h),
        λ h. (is.1 k).1 (new_to three four one two front back old start k h),
      ),
    ),
    at,
    made,
  )

-- the reached set is the same for rules in another order
pub order_is_free : OrderIsFree
order_is_free one two three four first second order es ((rounds, expanded, after, stops), all) = (
  (
    rounds,
    expanded,
    rounds_to one two three four first second rounds expanded order after,
    λ k h. stops k (new_to three four one two (turned one three first) (turned two four second) order expanded k h),
  ),
  edges_to one two three four first second order (length order) es all,
)
