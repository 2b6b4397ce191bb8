-- The edges of the seeds.
use Rattle.std.specs.Prelude.{◌≡◌, ◌↔◌, ℕ, ◌+◌, ◌<◌, List, [], ◌∷◌, length, map, refl}
use Rattle.std.proofs.Common.{zero, suc, arith, ap, sym, ◌∙◌, subst, inl, inr}
use Rattle.tib_lex.specs.Lists.{Has, Each, Distinct, Along}
use Rattle.tib_lex.proofs.Members.{has_left, has_right, has_either}
use Rattle.tib_lex.proofs.Numbers.{nat_eq_cases}
use Rattle.tib_tree.specs.Trees.{count}
use Rattle.tib_grammar.specs.Forms.{AreNormal}
use Rattle.tib_grammar.specs.Sides.{holes}
use Rattle.tib_grammar.specs.Run.{rule_at}
use Rattle.tib_grammar.specs.declared.Rule.{Rule}
use Rattle.tib_grammar.proofs.Sides.{length-holes}
use Rattle.tib_expand.specs.EdgeLists.{Lists, AreListed, Exceeds}
use Rattle.tib_determinize.specs.declared.vector_rule.VectorRule.{VectorRule}
use Rattle.tib_determinize.specs.VectorRules.{places_of, read_places}
use Rattle.tib_difference.specs.declared.listing.KeyListing.{KeyListing}
use Rattle.tib_difference.specs.Difference.{KeyOf, keys_at, IsEdgeOver, IsSeedEdge, IsSeed, edge_parts}
use Rattle.tib_difference.specs.OneEdge.{same_edge}
use Rattle.tib_difference.specs.Listing.{Listed, IsWithinBudget, IsListedAt, HasAll, Exceed}
use Rattle.tib_difference.specs.Tries.{leaf_try, leaves_from, leaves_of}
use Rattle.tib_difference.proofs.Edges.{edge_of, is_listed, ends_are}
use Rattle.tib_difference.proofs.Answering.{edge_is, lists, exceeds, in_order}

-- an origin without positions, of a rule without states, counted from k
record IsLeaf (k : ℕ) (rules : List (Rule ℕ)) (o : ℕ × List ℕ) : Type 0 where
  pub none : o.1 ≡ []
  pub place : ℕ
  pub is : o.0 ≡ k + place
  pub below : place < length rules
  pub leaf : count (rule_at rules place).right.kids ≡ 0

leaf_is : (k : ℕ) (rules : List (Rule ℕ)) (o : ℕ × List ℕ) → Has (leaves_from k rules) o → IsLeaf k rules o
leaf_is k [] o h = absurd h
leaf_is k (r ∷ rules) o h = elim (has_either (leaf_try k r) (leaves_from (suc k) rules) o h) [
  | inl m ↦ elim (nat_eq_cases (count r.right.kids) 0) [
    | inl z ↦ elim (rw z.1 at m) [
      | inl e ↦ record { none = sym (ap (λ (x : ℕ × List ℕ). x.1) e); place = 0; is = (let s = ap (λ (x : ℕ × List ℕ). x.0) e in omega (arith, s)); below = omega arith; leaf = z.0 }
      | inr n ↦ absurd n
    ]
    | inr z ↦ absurd (rw z.1 at m)
  ]
  | inr m ↦ let l = leaf_is (suc k) rules o m in record { none = l.none; place = suc l.place; is = omega (arith, l.is); below = omega (arith, l.below); leaf = l.leaf }
]

is_leaf : (k : ℕ) (rules : List (Rule ℕ)) (i n : ℕ) → n ≡ k + i → i < length rules → count (rule_at rules i).right.kids ≡ 0 → Has (leaves_from k rules) (n, [])
is_leaf k [] i n at low e = absurd (omega arith)
is_leaf k (r ∷ rules) zero n at low e =
    let s : k ≡ n = omega arith in
    has_left (leaf_try k r) (leaves_from (suc k) rules) (n, []) (elim (nat_eq_cases (count r.right.kids) 0) [ inl z ↦ rw z.1 (inl (ap (λ m. (m, [])) s)) | inr z ↦ absurd (z.0 e) ])
is_leaf k (r ∷ rules) (suc i) n at low e = has_right (leaf_try k r) (leaves_from (suc k) rules) (n, []) (is_leaf (suc k) rules i n (omega arith) (omega arith) e)

leaves_once : (k : ℕ) (rules : List (Rule ℕ)) → Distinct (leaves_from k rules)
leaves_once k [] = tt
leaves_once k (r ∷ rules) = elim (nat_eq_cases (count r.right.kids) 0) [
  | inl z ↦ rw z.1 ((λ h. let l = leaf_is (suc k) rules (k, []) h in absurd (omega (arith, l.is))), leaves_once (suc k) rules)
  | inr z ↦ rw z.1 (leaves_once (suc k) rules)
]

no_members : (xs : List ℕ) → length xs ≡ 0 → xs ≡ []
no_members [] e = refl
no_members (x ∷ xs) e = absurd (omega arith)

module _ (one two : List (Rule ℕ)) (normal : AreNormal one) where
  sound : (o : ℕ × List ℕ) (e : Listed) → Has (leaves_of one) o → IsListedAt one two [] o e → IsSeedEdge one two o (edge_of [] e)
  sound o e h is =
      let l = leaf_is 0 one o h in
      let at : o.0 ≡ l.place = omega (arith, l.is) in
      let low : o.0 < length one = omega (arith, l.below) in
      let leaf : count (rule_at one o.0).right.kids ≡ 0 = ap (λ i. count (rule_at one i).right.kids) at ∙ l.leaf in
      let empty : holes (rule_at one o.0).right.kids ≡ [] = no_members (holes (rule_at one o.0).right.kids) (length-holes (rule_at one o.0).right.kids (normal o.0 low).are_holes ∙ leaf) in
      record {
        none = l.none;
        edge = subst (λ (ks : List KeyOf). IsEdgeOver one two o.0 ks (edge_of [] e)) (ap (keys_at []) l.none) (edge_is one two [] o e low (empty ∙ ap (λ (ps : List ℕ). map (λ (k : KeyOf). k.0) (keys_at [] ps)) (sym l.none)) is);
      }

  whole : (o : ℕ × List ℕ) (e : Rule KeyOf) → IsSeedEdge one two o e → Has (leaves_of one) o
  whole o e is =
      let r = (rule_at one o.0).right.kids in
      let leaf : count r ≡ 0 = sym (length-holes r (normal o.0 is.edge.below).are_holes) ∙ ap length is.edge.states in
      subst (λ (ps : List ℕ). Has (leaves_of one) (o.0, ps)) (sym is.none) (is_leaf 0 one o.0 o.0 (omega arith) is.edge.below leaf)

  alone : (o : ℕ × List ℕ) (e f : Rule KeyOf) → IsSeedEdge one two o e → IsSeedEdge one two o f → e ≡ f
  alone o e f x y = same_edge one two o.0 [] e f x.edge y.edge

  all_listed : (es : List Listed) → Along (IsListedAt one two []) (leaves_of one) es → Lists (IsSeedEdge one two) (map (edge_of []) es)
  all_listed es a = lists one two [] (IsSeedEdge one two) (leaves_of one) (leaves_once 0 one) sound whole es a

  -- the edges of the seeds
  pub seed_edges_listed :
      (l : KeyListing) (ends : List KeyOf) (rs : List VectorRule) (parts : ℕ) → HasAll one two [] (leaves_of one) l → IsWithinBudget l → ends ≡ l.ends.items → rs ≡ l.rules.items → parts ≡ l.parts →
      AreListed (IsSeedEdge one two) edge_parts places_of read_places [] ends rs parts
  seed_edges_listed l ends rs parts h within e r p =
      is_listed (IsSeedEdge one two) [] ends rs parts l h.0 h.1 within e r p
      (in_order one two [] (leaves_of one) h.0 (λ o m. subst (λ (ps : List ℕ). Each (λ q. q < 0) ps) (sym (leaf_is 0 one o m).none) tt) h.2) (all_listed h.0 h.2)

  -- their ends are the seeds
  pub seed_ends : (l : KeyListing) (ends : List KeyOf) → HasAll one two [] (leaves_of one) l → ends ≡ l.ends.items → (k : KeyOf) → Has ends k ↔ IsSeed one two k
  seed_ends l ends h e k =
      let both = ends_are (IsSeedEdge one two) alone [] h.0 ends (e ∙ h.1.ends) (all_listed h.0 h.2) k in (
        λ m. let x = both.0 m in elim x.3 [ inl s ↦ (x.0.0, x.1, x.2.edge, s) | inr z ↦ absurd z ],
        λ s. both.1 ((s.0, []), s.1, record { none = refl; edge = s.2 }, inl s.3),
      )

  -- that they have more parts than the budget
  pub seeds_exceed : (budget : ℕ) → Exceed one two [] (leaves_of one) budget → Exceeds (IsSeedEdge one two) edge_parts budget
  seeds_exceed budget x = exceeds one two [] (IsSeedEdge one two) (leaves_of one) (leaves_once 0 one) sound whole alone budget x
