-- The rules of a reached set are the edges over the keys of its order.
use Rattle.std.specs.Prelude.{◌≡◌, ℕ, ◌<◌, ◌≤◌, List, [], ◌∷◌, length, map, refl}
use Rattle.std.proofs.Common.{arith, ap, sym, ◌∙◌, subst, inl, inr}
use Rattle.tib_lex.specs.Lists.{Has, Each, Distinct}
use Rattle.tib_lex.proofs.Lists.{each_weaker, has_mapped, mapped_has}
use Rattle.tib_lex.proofs.Members.{has_at, at_has}
use Rattle.tib_lex.proofs.Places.{distinct_at}
use Rattle.tib_tree.specs.Trees.{Trees, none, tree, relabel}
use Rattle.tib_grammar.specs.Sides.{Symbol, label, hole, symbol_map, holes, AreHoles, leaves}
use Rattle.tib_grammar.specs.Run.{rule_at, no_rule}
use Rattle.tib_grammar.specs.Forms.{AreNormal}
use Rattle.tib_grammar.specs.Range.{AllBelow}
use Rattle.tib_grammar.specs.GrammarOf.{named_rule}
use Rattle.tib_grammar.specs.declared.Rule.{Rule}
use Rattle.tib_grammar.proofs.Below.{below_has}
use Rattle.tib_grammar.proofs.Sides.{holes_of-label, holes-leaves, holes-relabel}
use Rattle.tib_determinize.proofs.Found.{label-relabel, IsLabel-is}
use Rattle.tib_determinize.specs.ListLemmas.{order_of}
use Rattle.tib_difference.specs.Subsets.{IsSubset}
use Rattle.tib_difference.specs.Difference.{KeyOf, states_of, subsets_of, key_at, keys_at, IsEdgeOver, difference}
use Rattle.tib_difference.specs.Series.{IsReachedGrammar}
use Rattle.tib_difference.specs.OneEdge.{difference_laws}
use Rattle.tib_difference.proofs.Reached.{order_once, seed_listed, edge_listed, edge_given}

-- what becomes leaves by new names was holes
holes_back : {P Q : Type 0} (g : P → Q) (s : Trees (Symbol ℕ P)) (qs : List Q) → relabel (symbol_map g) s ≡ leaves qs → AreHoles s
holes_back g none qs e = tt
holes_back g (tree (label f) kids rest) [] e = absurd (cc)
holes_back g (tree (label f) kids rest) (q ∷ qs) e = absurd (cc)
holes_back g (tree (hole p) kids rest) [] e = absurd (cc)
holes_back g (tree (hole p) kids rest) (q ∷ qs) e = holes_back g rest qs (cc)

-- the greatest of some positions

record IsGreatest (n : ℕ) (ps : List ℕ) : Type 0 where
  has : Has ps n
  up_to : Each (λ p. p ≤ n) ps

greatest : (p : ℕ) (ps : List ℕ) → (n : ℕ) × IsGreatest n (p ∷ ps)
greatest p [] = (p, record { has = inl refl; up_to = (omega arith, tt) })
greatest p (q ∷ ps) =
    let more = greatest q ps in
    elim (order_of p more.0) [
      | inl h ↦ (more.0, record { has = inr more.1.has; up_to = (h, more.1.up_to) })
      | inr h ↦ (p, record { has = inl refl; up_to = (omega arith, each_weaker (λ z. z ≤ more.0) (λ z. z ≤ p) (q ∷ ps) (λ z e. omega arith) more.1.up_to) })
    ]

-- The rule j stands for an edge: it is a rule of the first grammar over the keys at its positions,
-- from the key at its left one.
pub record IsKeyRule (one two : List (Rule ℕ)) (order : List KeyOf) (new : List (Rule ℕ)) (j : ℕ) : Type 0 where
  pub rule : ℕ
  pub below : rule < length one
  pub root : ℕ
  pub first_root : (rule_at one rule).right.label ≡ label root
  pub is_root : (rule_at new j).right.label ≡ label root
  pub are_holes : AreHoles (rule_at new j).right.kids
  pub states : holes (rule_at one rule).right.kids ≡ states_of (keys_at order (holes (rule_at new j).right.kids))
  pub left : (key_at order (rule_at new j).left).0 ≡ (rule_at one rule).left
  pub subset : IsSubset two root (subsets_of (keys_at order (holes (rule_at new j).right.kids))) (key_at order (rule_at new j).left).1
  pub cost : (rule_at new j).cost ≡ (rule_at one rule).cost

-- the rule j is this edge over the keys at these positions
pub record Stands (order : List KeyOf) (new : List (Rule ℕ)) (ps : List ℕ) (e : Rule KeyOf) (j : ℕ) : Type 0 where
  pub below : j < length new
  pub is : named_rule (key_at order) (rule_at new j) ≡ e
  pub positions : holes (rule_at new j).right.kids ≡ ps

module _ (one two : List (Rule ℕ)) (order : List KeyOf) (new : List (Rule ℕ)) where
  -- the keys of an edge are those at the positions of its rule
  keys_are :
      (m j : ℕ) (keys : List KeyOf) → IsEdgeOver one two m keys (named_rule (key_at order) (rule_at new j)) →
      keys_at order (holes (rule_at new j).right.kids) ≡ keys
  keys_are m j keys e =
      sym (holes-relabel (key_at order) (rule_at new j).right.kids) ∙ ap (λ t. holes t.kids) e.right ∙ holes-leaves ℕ keys

  root_is :
      (m j : ℕ) (keys : List KeyOf) (e : IsEdgeOver one two m keys (named_rule (key_at order) (rule_at new j))) → (rule_at new j).right.label ≡ label e.root
  root_is m j keys e = label-relabel (key_at order) (rule_at new j).right.label e.root (ap (λ t. t.label) e.right)

  key_rule : (m j : ℕ) (keys : List KeyOf) → IsEdgeOver one two m keys (named_rule (key_at order) (rule_at new j)) → IsKeyRule one two order new j
  key_rule m j keys e =
      let same : keys ≡ keys_at order (holes (rule_at new j).right.kids) = sym (keys_are m j keys e) in
      record {
        rule = m;
        below = e.below;
        root = e.root;
        first_root = e.is_root;
        is_root = root_is m j keys e;
        are_holes = holes_back (key_at order) (rule_at new j).right.kids keys (ap (λ t. t.kids) e.right);
        states = e.states ∙ ap (λ ks. states_of ks) same;
        left = e.left;
        subset = subst (λ (ks : List KeyOf). IsSubset two e.root (subsets_of ks) (key_at order (rule_at new j).left).1) same e.subset;
        cost = e.cost;
      }

  module _ (found : IsReachedGrammar one two order new) where
    -- each rule stands for an edge
    pub key_rule_at : (j : ℕ) → j < length new → IsKeyRule one two order new j
    key_rule_at j h =
        let e : Rule KeyOf = named_rule (key_at order) (rule_at new j) in
        elim (edge_given (difference one two) (difference_laws one two) order (length order) (map (named_rule (key_at order)) new) found.reached.1 e
        (mapped_has (named_rule (key_at order)) new (rule_at new j) (has_at new j no_rule h))) [
          | inl s ↦ key_rule s.0.0 j [] s.1.edge
          | inr p ↦ key_rule p.2.0.0 j (keys_at order p.2.0.1) p.2.1.edge
        ]

    -- so the rules are in normal form
    pub rules_normal : AreNormal new
    rules_normal j h =
        let r = key_rule_at j h in
        record { is_label = IsLabel-is (rule_at new j).right.label r.root r.is_root; are_holes = r.are_holes }

    once : Distinct order
    once = order_once (difference one two) (difference_laws one two) found.reached.0.0 found.reached.0.1 order found.reached.0.2

    same_positions : (ps qs : List ℕ) → AllBelow (length order) ps → AllBelow (length order) qs → keys_at order ps ≡ keys_at order qs → ps ≡ qs
    same_positions [] [] a b e = refl
    same_positions [] (q ∷ qs) a b e = absurd (cc)
    same_positions (p ∷ ps) [] a b e = absurd (cc)
    same_positions (p ∷ ps) (q ∷ qs) a b e =
        let first : key_at order p ≡ key_at order q = cc in
        let others : keys_at order ps ≡ keys_at order qs = cc in
        let one : p ≡ q = distinct_at order p q (0, []) once a.0 b.0 first in
        cc (one, same_positions ps qs a.1 b.1 others)

    -- an edge over keys of the order is in the list
    edge_has : (m : ℕ) (ps : List ℕ) (e : Rule KeyOf) → AllBelow (length order) ps → IsEdgeOver one two m (keys_at order ps) e → Has (map (named_rule (key_at order)) new) e
    edge_has m [] e b is =
        seed_listed (difference one two) (difference_laws one two) order (length order) (map (named_rule (key_at order)) new) found.reached.1 (m, []) e (record { none = refl; edge = is })
    edge_has m (p ∷ ps) e b is =
        let top = greatest p ps in
        edge_listed (difference one two) (difference_laws one two) order (length order) (map (named_rule (key_at order)) new) found.reached.1
        top.0 (below_has (length order) (p ∷ ps) top.0 b top.1.has) (m, p ∷ ps) e (record { up_to = top.1.up_to; stands = top.1.has; edge = is })

    -- and has its rule
    pub has_rule : (m : ℕ) (ps : List ℕ) (e : Rule KeyOf) → AllBelow (length order) ps → IsEdgeOver one two m (keys_at order ps) e → (j : ℕ) × Stands order new ps e j
    has_rule m ps e b is =
        let r = has_mapped (named_rule (key_at order)) new e (edge_has m ps e b is) in
        let j = at_has new r.0 no_rule r.1 in
        let named : named_rule (key_at order) (rule_at new j.0) ≡ e = ap (named_rule (key_at order)) j.2 ∙ r.2 in
        let edge : IsEdgeOver one two m (keys_at order ps) (named_rule (key_at order) (rule_at new j.0)) = subst (IsEdgeOver one two m (keys_at order ps)) (sym named) is in
        let range : AllBelow (length order) (holes (rule_at new j.0).right.kids) =
        subst (AllBelow (length order)) (holes_of-label (rule_at new j.0).right.label (rule_at new j.0).right.kids edge.root (root_is m j.0 (keys_at order ps) edge)) (found.in_range j.0 j.1).1
        in
        (j.0, record { below = j.1; is = named; positions = same_positions (holes (rule_at new j.0).right.kids) ps range b (keys_are m j.0 (keys_at order ps) edge) })
