-- An origin gives one edge, and what a hunt asks of the difference.
use Rattle.std.specs.Prelude.{◌≡◌, ℕ, ◌+◌, ◌<◌, ◌≤◌, List, [], ◌∷◌, ◌++◌, length, take, refl}
use Rattle.std.proofs.Common.{zero, suc, arith, ap, sym, ◌∙◌, subst, inl, inr, get_or}
use Rattle.std.specs.Cmp.{IsTotalOrder}
use Rattle.std.proofs.lemmas.Cmp.{then_total, on_total, lists_total, nat_cmp_total}
use Rattle.tib_lex.specs.Lists.{Has, Each}
use Rattle.tib_lex.proofs.Lists.{map_same, each_weaker}
use Rattle.tib_lex.proofs.Members.{each_of}
use Rattle.tib_grammar.specs.Sides.{over}
use Rattle.tib_grammar.specs.Run.{rule_at}
use Rattle.tib_grammar.specs.declared.Rule.{Rule}
use Rattle.tib_grammar.proofs.Sides.{one_label}
use Rattle.tib_expand.proofs.Members.{same_ascending}
use Rattle.tib_expand.proofs.Reaching.{Laws}
use Rattle.tib_key_edges.proofs.KeyOrders.{at_append}
use Rattle.tib_determinize.specs.Determinization.{LeftsBelow}
use Rattle.tib_difference.specs.Subsets.{SubsetOf, LeadsTo, IsSubset}
use Rattle.tib_difference.specs.Difference.{KeyOf, key_cmp, subsets_of, key_at, keys_at, IsEdgeOver, IsSeedEdge, IsEdgeAt, IsSeed, ends_of, difference, IsKey}

-- keys have a total order
pub key_total : IsTotalOrder key_cmp
key_total = then_total (on_total (λ (k : KeyOf). k.0) nat_cmp_total) (on_total (λ (k : KeyOf). k.1) (lists_total nat_cmp_total))

-- a label over some sets has at most one subset
pub subset_is_one : (rules : List (Rule ℕ)) (f : ℕ) (vs : List SubsetOf) (v w : SubsetOf) → IsSubset rules f vs v → IsSubset rules f vs w → v ≡ w
subset_is_one rules f vs v w a b =
    same_ascending {Before = λ x y. x < y} (λ x y low high. omega arith) v w a.ascends b.ascends
    (λ q h. (b.states q).1 ((a.states q).0 h)) (λ q h. (a.states q).1 ((b.states q).0 h))

-- rules with the same parts are the same
rule_same : (e d : Rule KeyOf) → e.left ≡ d.left → e.right ≡ d.right → e.cost ≡ d.cost → e ≡ d
rule_same e d left right costs =
    ap (λ l. record { left = l; right = e.right; cost = e.cost }) left
    ∙ ap (λ r. record { left = d.left; right = r; cost = e.cost }) right
    ∙ ap (λ c. record { left = d.left; right = d.right; cost = c }) costs

-- keys with the same parts are the same
pub key_same : (k l : KeyOf) → k.0 ≡ l.0 → k.1 ≡ l.1 → k ≡ l
key_same k l states sets = ap (λ q. (q, k.1)) states ∙ ap (λ v. (l.0, v)) sets

-- orders that agree up to n have the same keys at positions up to n
take_at : (xs : List KeyOf) (n i : ℕ) (d : KeyOf) → i < n → get_or (take n xs) i d ≡ get_or xs i d
take_at [] zero i d h = absurd (omega arith)
take_at [] (suc n) i d h = refl
take_at (x ∷ xs) zero i d h = absurd (omega arith)
take_at (x ∷ xs) (suc n) zero d h = refl
take_at (x ∷ xs) (suc n) (suc i) d h = take_at xs n i d (omega arith)

pub keys_stay : (xs ys : List KeyOf) (n : ℕ) (ps : List ℕ) → take (n + 1) xs ≡ take (n + 1) ys → Each (λ p. p ≤ n) ps → keys_at xs ps ≡ keys_at ys ps
keys_stay xs ys n ps e h =
    map_same (key_at xs) (key_at ys) ps (each_weaker (λ p. p ≤ n) (λ p. key_at xs p ≡ key_at ys p) ps
    (λ p low. sym (take_at xs (n + 1) p (0, []) (omega arith)) ∙ ap (λ (zs : List KeyOf). key_at zs p) e ∙ take_at ys (n + 1) p (0, []) (omega arith)) h)

-- a longer order has the same keys at the positions of the shorter one
pub keys_front : (xs ys : List KeyOf) (n : ℕ) (ps : List ℕ) → n < length xs → Each (λ p. p ≤ n) ps → keys_at (xs ++ ys) ps ≡ keys_at xs ps
keys_front xs ys n ps low h =
    map_same (key_at (xs ++ ys)) (key_at xs) ps
    (each_weaker (λ p. p ≤ n) (λ p. key_at (xs ++ ys) p ≡ key_at xs p) ps (λ p up. at_append (0, []) xs ys p (omega arith)) h)

module _ (one two : List (Rule ℕ)) where
  -- a rule gives one edge over some keys
  pub same_edge : (rule : ℕ) (keys : List KeyOf) (e d : Rule KeyOf) → IsEdgeOver one two rule keys e → IsEdgeOver one two rule keys d → e ≡ d
  same_edge rule keys e d a b =
      let root : a.root ≡ b.root = one_label a.root b.root (rule_at one rule).right.label a.is_root b.is_root in
      let sets : e.left.1 ≡ d.left.1 = subset_is_one two b.root (subsets_of keys) e.left.1 d.left.1 (subst (λ f. IsSubset two f (subsets_of keys) e.left.1) root a.subset) b.subset in
      rule_same e d (key_same e.left d.left (a.left ∙ sym b.left) sets) (a.right ∙ ap (λ f. over f keys) root ∙ sym b.right) (a.cost ∙ sym b.cost)

  pub one_seed_edge : (o : ℕ × List ℕ) (e d : Rule KeyOf) → IsSeedEdge one two o e → IsSeedEdge one two o d → e ≡ d
  one_seed_edge o e d a b = same_edge o.0 [] e d a.edge b.edge

  pub one_edge : (order : List KeyOf) (n : ℕ) (o : ℕ × List ℕ) (e d : Rule KeyOf) → IsEdgeAt one two order n o e → IsEdgeAt one two order n o d → e ≡ d
  one_edge order n o e d a b = same_edge o.0 (keys_at order o.1) e d a.edge b.edge

  moved : (xs ys : List KeyOf) (n : ℕ) (o : ℕ × List ℕ) (e : Rule KeyOf) → keys_at xs o.1 ≡ keys_at ys o.1 → IsEdgeAt one two xs n o e → IsEdgeAt one two ys n o e
  moved xs ys n o e same is = record {
    up_to = is.up_to;
    stands = is.stands;
    edge = subst (λ keys. IsEdgeOver one two o.0 keys e) same is.edge;
  }

  -- the edges of a position depend on the order up to there alone
  pub edges_stay :
      (xs ys : List KeyOf) (n : ℕ) (o : ℕ × List ℕ) (e : Rule KeyOf) → n < length xs → n < length ys → take (n + 1) xs ≡ take (n + 1) ys → IsEdgeAt one two xs n o e →
      IsEdgeAt one two ys n o e
  edges_stay xs ys n o e low high same is = moved xs ys n o e (keys_stay xs ys n o.1 same is.up_to) is

  -- what the hunt asks of its edges
  pub difference_laws : Laws (difference one two)
  difference_laws = record {
    total_order = key_total;
    one_seed_edge = one_seed_edge;
    one_edge = one_edge;
    stay = λ xs ys n o e low is. moved xs (xs ++ ys) n o e (sym (keys_front xs ys n o.1 low is.up_to)) is;
    back = λ xs ys n o e low is. moved (xs ++ ys) xs n o e (keys_front xs ys n o.1 low is.up_to) is;
  }

  -- the edges of the seeds end at seeds
  pub seeds_end : (o : ℕ × List ℕ) (e : Rule KeyOf) (k : KeyOf) → IsSeedEdge one two o e → Has (ends_of e) k → IsSeed one two k
  seeds_end o e k is h = elim h [ inl same ↦ (o.0, e, is.edge, same) | inr none ↦ absurd none ]

  module _ (ones twos : ℕ) (first : LeftsBelow ones one) (second : LeftsBelow twos two) where
    -- an edge leads from a key that may be in an order
    pub left_admitted : (rule : ℕ) (keys : List KeyOf) (e : Rule KeyOf) → IsEdgeOver one two rule keys e → IsKey ones twos e.left
    left_admitted rule keys e is = record {
      state = subst (λ q. q < ones) (sym is.left) (first rule is.below);
      ascends = is.subset.ascends;
      below = each_of (λ q. q < twos) e.left.1 (λ q h.
          let l : LeadsTo two is.root (subsets_of keys) q = (is.subset.states q).0 h in
          subst (λ r. r < twos) l.left (second l.rule l.below));
    }

    pub seeds_admitted : (k : KeyOf) → IsSeed one two k → IsKey ones twos k
    seeds_admitted k s = subst (λ l. IsKey ones twos l) s.3 (left_admitted s.0 [] s.1 s.2)

    pub ends_admitted :
        (order : List KeyOf) (n : ℕ) (o : ℕ × List ℕ) (e : Rule KeyOf) (k : KeyOf) → Each (IsKey ones twos) order → n < length order →
        IsEdgeAt one two order n o e → Has (ends_of e) k → IsKey ones twos k
    ends_admitted order n o e k all low is h = elim h [
      | inl same ↦ subst (λ l. IsKey ones twos l) same (left_admitted o.0 (keys_at order o.1) e is.edge)
      | inr none ↦ absurd none
    ]
