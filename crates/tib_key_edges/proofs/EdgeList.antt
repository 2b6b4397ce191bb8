-- The edges of a pair, each as often as origins give it.
use Rattle.std.specs.Prelude.{◌≡◌, ℕ, ◌<◌, ◌≤◌, List, [], ◌∷◌, map, length, nat_eq, if◌then◌else◌, Option, refl}
use Rattle.std.proofs.Common.{zero, suc, arith, ap, sym, subst, inl, inr}
use Rattle.tib_lex.specs.Lists.{Has, Distinct, Along}
use Rattle.tib_tree.specs.Trees.{Trees, none, tree, only, count, first_of}
use Rattle.tib_grammar.specs.Sides.{label}
use Rattle.tib_lex.proofs.Numbers.{nat_eq_cases, nat_eq-true, nat_le_cases}
use Rattle.tib_lex.proofs.Members.{has_left, has_right, has_either}
use Rattle.tib_cost.specs.Semiring.{most}
use Rattle.tib_expand.specs.EdgeLists.{Lists}
use Rattle.tib_transducer.specs.Rules.{transducer_rule}
use Rattle.tib_transducer.specs.Range.{AreShaped}
use Rattle.tib_key_edges.specs.Translations.{translated, choice_cost}
use Rattle.tib_key_edges.specs.Composing.{IsComposeEdge}
use Rattle.tib_key_edges.specs.Choices.{choices_of, edge_from, cheap, origins_of, edges_of}
use Rattle.tib_transducer.specs.declared.TransducerRule.{TransducerRule}
use Rattle.tib_key_edges.proofs.Translating.{count-translated}
use Rattle.tib_expand.proofs.Members.{distinct_append}
use Rattle.tib_key_edges.proofs.Choosing.{has_if, if_has, if_once, number_same, choices_once, choices_are}

only_first : {A : Type 0} (d : A) (ts : Trees A) → count ts ≡ 1 → only (first_of d ts) ≡ ts
only_first d none e = absurd (omega arith)
only_first d (tree f kids none) e = refl
only_first d (tree f kids (tree g ks rest)) e = absurd (omega arith)

along_images : {O E : Type 0} (R : O → E → Type 0) (g : O → E) (os : List O) → ((o : O) → Has os o → R o (g o)) → Along R os (map g os)
along_images R g [] f = tt
along_images R g (o ∷ os) f = (f o (inl refl), along_images R g os (λ x h. f x (inr h)))

module _ (product : ℕ → ℕ → ℕ) (one two : List (TransducerRule ℕ)) where
  abbrev Origin : Type 0
  Origin = ℕ × Trees (Option ℕ)

  abbrev cost_of : ℕ → Trees (Option ℕ) → ℕ
  cost_of n c = product (transducer_rule one n).cost (choice_cost product two c)

  has_cheap : (n : ℕ) (cs : List (Trees (Option ℕ))) (o : Origin) → Has (cheap product one two n cs) o → (o.0 ≡ n) × Has cs o.1 × (cost_of n o.1 ≤ most)
  has_cheap n [] o h = absurd h
  has_cheap n (c ∷ cs) o h = elim (nat_le_cases (cost_of n c) most) [
    | inl k ↦
        let h' : Has {A = Origin} ((n, c) ∷ cheap product one two n cs) o = rw k.1 at h in
        elim h' [
          | inl e ↦ (
            sym (ap (λ (x : Origin). x.0) e),
            inl (ap (λ (x : Origin). x.1) e),
            subst (λ z. cost_of n z ≤ most) (ap (λ (x : Origin). x.1) e) k.0,
          )
          | inr m ↦ let r = has_cheap n cs o m in (r.0, inr r.1, r.2)
        ]
    | inr k ↦
        let h' : Has {A = Origin} (cheap product one two n cs) o = rw k.1 at h in
        let r = has_cheap n cs o h' in (r.0, inr r.1, r.2)
  ]

  cheap_has : (n : ℕ) (cs : List (Trees (Option ℕ))) (c : Trees (Option ℕ)) → Has cs c → cost_of n c ≤ most → Has {A = Origin} (cheap product one two n cs) (n, c)
  cheap_has n [] c h b = absurd h
  cheap_has n (d ∷ cs) c h b = elim (nat_le_cases (cost_of n d) most) [
    | inl k ↦ rw k.1 (elim h [ inl e ↦ inl (ap (λ z. (n, z)) e) | inr m ↦ inr (cheap_has n cs c m b) ])
    | inr k ↦ rw k.1 (elim h [
      | inl e ↦ absurd (let f : cost_of n d ≡ cost_of n c = ap (cost_of n) e in let g = k.0 in omega (arith, f, g, b))
      | inr m ↦ cheap_has n cs c m b
    ])
  ]

  cheap_once : (n : ℕ) (cs : List (Trees (Option ℕ))) → Distinct cs → Distinct (cheap product one two n cs)
  cheap_once n [] d = tt
  cheap_once n (c ∷ cs) d = elim (nat_le_cases (cost_of n c) most) [
    | inl k ↦ rw k.1 (λ h. d.0 (has_cheap n cs (n, c) h).1, cheap_once n cs d.1)
    | inr k ↦ rw k.1 (cheap_once n cs d.1)
  ]

  -- the origins of a pair, by the first rules
  record IsOrigin (key : ℕ × ℕ) (m : ℕ) (o : Origin) : Type 0 where
    below : o.0 < m
    from : (transducer_rule one o.0).state ≡ key.0
    stands : Has (choices_of two key.1 (transducer_rule one o.0).right) o.1
    within : cost_of o.0 o.1 ≤ most

  abbrev at_rule : ℕ × ℕ → ℕ → List Origin
  at_rule key n = cheap product one two n (choices_of two key.1 (transducer_rule one n).right)

  has_origin : (key : ℕ × ℕ) (m : ℕ) (o : Origin) → Has (origins_of product one two key m) o → IsOrigin key m o
  has_origin key zero o h = absurd h
  has_origin key (suc m) o h = elim (has_either (origins_of product one two key m) (if nat_eq (transducer_rule one m).state key.0 then at_rule key m else []) o h) [
    | inl k ↦ let r = has_origin key m o k in record { below = (let b = r.below in omega arith); from = r.from; stands = r.stands; within = r.within }
    | inr k ↦
        let r = has_if (nat_eq (transducer_rule one m).state key.0) (at_rule key m) o k in
        let s = has_cheap m (choices_of two key.1 (transducer_rule one m).right) o r.1 in
        let e : m ≡ o.0 = sym s.0 in
        record {
          below = omega (arith, e);
          from = subst (λ z. (transducer_rule one z).state ≡ key.0) e (nat_eq-true (transducer_rule one m).state key.0 r.0);
          stands = subst (λ z. Has (choices_of two key.1 (transducer_rule one z).right) o.1) e s.1;
          within = subst (λ z. cost_of z o.1 ≤ most) e s.2;
        }
  ]

  origin_has : (key : ℕ × ℕ) (m n : ℕ) (c : Trees (Option ℕ)) → n < m → (transducer_rule one n).state ≡ key.0 → Has (choices_of two key.1 (transducer_rule one n).right) c → cost_of n c ≤ most → Has {A = Origin} (origins_of product one two key m) (n, c)
  origin_has key zero n c h e k b = absurd (omega arith)
  origin_has key (suc m) n c h e k b = elim (nat_eq_cases n m) [
    | inl same ↦
        has_right (origins_of product one two key m) (if nat_eq (transducer_rule one m).state key.0 then at_rule key m else []) (n, c)
        (subst (λ z. Has {A = Origin} (if nat_eq (transducer_rule one z).state key.0 then at_rule key z else []) (n, c)) same.0
        (if_has (nat_eq (transducer_rule one n).state key.0) (at_rule key n) (n, c) (number_same (transducer_rule one n).state key.0 e)
        (cheap_has n (choices_of two key.1 (transducer_rule one n).right) c k b)))
    | inr other ↦
        has_left (origins_of product one two key m) (if nat_eq (transducer_rule one m).state key.0 then at_rule key m else []) (n, c)
        (origin_has key m n c (let d = other.0 in omega (arith, d)) e k b)
  ]

  module _ (shaped : AreShaped two) where
    origins_once : (key : ℕ × ℕ) (m : ℕ) → Distinct (origins_of product one two key m)
    origins_once key zero = tt
    origins_once key (suc m) =
        distinct_append (origins_of product one two key m) (if nat_eq (transducer_rule one m).state key.0 then at_rule key m else [])
        (origins_once key m)
        (if_once (nat_eq (transducer_rule one m).state key.0) (at_rule key m)
        (λ e. cheap_once m (choices_of two key.1 (transducer_rule one m).right) (choices_once two shaped key.1 (transducer_rule one m).right)))
        (λ o a b.
        let r = has_origin key m o a in
        let s = has_if (nat_eq (transducer_rule one m).state key.0) (at_rule key m) o b in
        let l = has_cheap m (choices_of two key.1 (transducer_rule one m).right) o s.1 in
        let low = r.below in
        let e = l.0 in
        omega (arith, e, low))

    is_edge : (key : ℕ × ℕ) (o : Origin) → IsOrigin key (length one) o → IsComposeEdge product one two key o (edge_from product one two key o)
    is_edge key o r =
        let choice = (choices_are two shaped key.1 (transducer_rule one o.0).right o.1).0 r.stands in
        record {
          below = r.below;
          from = r.from;
          choice = choice;
          state = refl;
          left = refl;
          right = only_first (label 0) (translated two (key.1 ∷ []) (only (transducer_rule one o.0).right) o.1)
              (count-translated two o.1 (key.1 ∷ []) (only (transducer_rule one o.0).right) choice);
          costs = refl;
          within = r.within;
        }

    -- the listed edges are those of the key, each as often as origins give it
    pub edges_are_listed : (key : ℕ × ℕ) → Lists (IsComposeEdge product one two key) (edges_of product one two key)
    edges_are_listed key = record {
      origins = origins_of product one two key (length one);
      once = origins_once key (length one);
      given = along_images (IsComposeEdge product one two key) (edge_from product one two key) (origins_of product one two key (length one)) (λ o h. is_edge key o (has_origin key (length one) o h));
      whole = λ o e g.
          origin_has key (length one) o.0 o.1 g.below g.from ((choices_are two shaped key.1 (transducer_rule one o.0).right o.1).1 g.choice)
          (let c = g.costs in let w = g.within in omega (arith, c, w));
    }
