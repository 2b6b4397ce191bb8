-- The steps of a walk over child places.
use Rattle.std.specs.Prelude.{◌≡◌, ◌⊎◌, ℕ, ◌+◌, ◌<◌, ◌≤◌, Bool, List, [], ◌∷◌, ◌++◌, length, drop, Option, None, Some, refl}
use Rattle.std.proofs.Common.{zero, suc, arith, ap, sym, ◌∙◌, subst, get_or, inl, inr, append_assoc, length-append}
use Rattle.tib_lex.specs.Lists.{Has, Each}
use Rattle.tib_lex.proofs.Members.{has_either}
use Rattle.tib_grammar.specs.Run.{rule_at}
use Rattle.tib_grammar.specs.Forms.{AreNormal}
use Rattle.tib_grammar.specs.declared.Rule.{Rule}
use Rattle.tib_grammar.proofs.Sides.{length-holes}
use Rattle.tib_cost.specs.Semiring.{most, cut, ProductLaws}
use Rattle.tib_cost.specs.Least.{times}
use Rattle.tib_lex.proofs.Numbers.{nat_eq_cases}
use Rattle.tib_lex.proofs.Lists.{some_same}
use Rattle.tib_normal.proofs.RulePlaces.{has_rule_place}
use Rattle.tib_determinize.specs.declared.alive.Alive.{Alive}
use Rattle.tib_determinize.specs.Vectors.{VectorOf, Rises, IsWeight, vector_at, vectors_at}
use Rattle.tib_determinize.specs.Lookup.{residual_in}
use Rattle.tib_determinize.specs.Alive.{states_of, with_alive, weight_with, narrowed, HasPlace, GoesOn, IsAlive, AreLeft}
use Rattle.tib_determinize.specs.Tries.{first_at, many_at, span, under, behind_label}
use Rattle.tib_determinize.specs.VectorLemmas.{one_residual}
use Rattle.tib_determinize.proofs.LeastCosts.{drop_at}
use Rattle.tib_determinize.proofs.Leaves.{cut_is, cut_within, part_within}

-- a residual that is found is in the vector
pub residual_has : (v : VectorOf) (q r : ℕ) → residual_in q v ≡ Some r → Has {A = ℕ × ℕ} v (q, r)
residual_has [] q r e = absurd (cc)
residual_has (x ∷ v) q r e = elim (nat_eq_cases x.0 q) [
  | inl k ↦ let d = rw k.1 at e in let s : x.1 ≡ r = some_same x.1 r d in inl (ap (λ a. (a, x.1)) k.0 ∙ ap (λ b. (q, b)) s)
  | inr k ↦ inr (residual_has v q r (rw k.1 at e))
]

pub some_residual : (v : VectorOf) (q r : ℕ) → Has {A = ℕ × ℕ} v (q, r) → (s : ℕ) × (residual_in q v ≡ Some s)
some_residual [] q r h = absurd h
some_residual (x ∷ v) q r h = elim (nat_eq_cases x.0 q) [
  | inl k ↦ (x.1, rw k.1 refl)
  | inr k ↦ elim h [
    | inl e ↦ absurd (k.0 (ap (λ (z : ℕ × ℕ). z.0) e))
    | inr m ↦ let s = some_residual v q r m in (s.0, rw k.1 s.1)
  ]
]

-- and the other way round
pub has_residual : (v : VectorOf) (q r : ℕ) → Rises v → Has {A = ℕ × ℕ} v (q, r) → residual_in q v ≡ Some r
has_residual v q r rises h =
    let s = some_residual v q r h in
    s.1 ∙ ap Some (one_residual v q s.0 r rises (residual_has v q s.0 s.1) h)

here_or_before : (j i : ℕ) → j < suc i → (j ≡ i) ⊎ (j < i)
here_or_before j i h = grind arith

-- what is listed for some positions is listed for one of them
pub span_has : {A : Type 0} (g : ℕ → List A) (p c : ℕ) (x : A) → Has (span g p c) x → (q : ℕ) × (p ≤ q) × (q < p + c) × Has (g q) x
span_has g p zero x h = absurd h
span_has g p (suc c) x h = elim (has_either (g p) (span g (suc p) c) x h) [
  | inl k ↦ (p, omega arith, omega arith, k)
  | inr k ↦ let r = span_has g (suc p) c x k in (r.0, omega (arith, r.1), omega (arith, r.2), r.3)
]

-- the lists that end in some positions
pub under_ends : (n j i : ℕ) (ps xs : List ℕ) → Has (under n j i ps) xs → (front : List ℕ) × (xs ≡ front ++ ps) × (length front ≡ i)
under_ends n j zero ps xs h = elim h [ inl e ↦ ([], sym e, refl) | inr k ↦ absurd k ]
under_ends n j (suc i) ps xs h =
    let s = span_has (λ p. under n j i (p ∷ ps)) (first_at n j i) (many_at n j i) xs h in
    let r = under_ends n j i (s.0 ∷ ps) xs s.3 in (
      r.0 ++ s.0 ∷ [],
      r.1 ∙ sym (append_assoc r.0 (s.0 ∷ []) ps),
      (let l = length-append r.0 (s.0 ∷ []) in let m = r.2 in omega (arith, l, m)),
    )

-- a list after a label
pub labelled_has : (f : ℕ) (pss : List (List ℕ)) (o : ℕ × List ℕ) → Has (behind_label f pss) o → (o.0 ≡ f) × Has pss o.1
labelled_has f [] o h = absurd h
labelled_has f (ps ∷ pss) o h = elim h [
  | inl e ↦ (sym (ap (λ (z : ℕ × List ℕ). z.0) e), inl (ap (λ (z : ℕ × List ℕ). z.1) e))
  | inr k ↦ let r = labelled_has f pss o k in (r.0, inr r.1)
]

module _ (product : ℕ → ℕ → ℕ) {levelled weighted : Bool} (laws : ProductLaws levelled weighted product) (rules : List (Rule ℕ)) (normal : AreNormal rules) (order : List VectorOf) (f k : ℕ) where
  -- the rules that are still alive, where the vector at p is at the place i
  module _ (i p : ℕ) (ps : List ℕ) (low : i < k) (rises : Rises (vector_at order p)) where
    kept_alive :
        (a : Alive) → IsAlive product rules order f k (suc i) ps a → (w : ℕ) → weight_with product rules i (vector_at order p) a ≡ Some w →
        IsAlive product rules order f k i (p ∷ ps) (record { rule = a.rule; weight = w })
    kept_alive a h w e = by (residual_in q v) refl
      where
        q : ℕ
        q = get_or (states_of rules a.rule) i 0

        v : VectorOf
        v = vector_at order p

        place : i < length (states_of rules a.rule)
        place = let r = h.rank in omega (arith, low, r)

        by : (o : Option ℕ) → residual_in q v ≡ o → IsAlive product rules order f k i (p ∷ ps) (record { rule = a.rule; weight = w })
        by None n = absurd (let none : times product None (Some a.weight) ≡ Some w = subst (λ o. times product o (Some a.weight) ≡ Some w) n e in cc)
        by (Some r) n =
            let is = cut_is (product r a.weight) w (subst (λ o. times product o (Some a.weight) ≡ Some w) n e) in
            record {
              below = h.below;
              root = h.root;
              rank = h.rank;
              weighs = subst (λ (qs : List ℕ). IsWeight product qs (v ∷ vectors_at order ps) w) (sym (drop_at (states_of rules a.rule) i 0 place))
                  (record { residual = r; stands = residual_has v q r n; others = a.weight; are = h.weighs; is = is.0 });
            }

    sound_still : (alive : List Alive) → Each (IsAlive product rules order f k (suc i) ps) alive → Each (IsAlive product rules order f k i (p ∷ ps)) (narrowed product rules i (vector_at order p) alive)
    sound_still [] h = tt
    sound_still (a ∷ alive) h = by (weight_with product rules i (vector_at order p) a) refl (sound_still alive h.1)
      where
        by :
            (o : Option ℕ) → weight_with product rules i (vector_at order p) a ≡ o → Each (IsAlive product rules order f k i (p ∷ ps)) (narrowed product rules i (vector_at order p) alive) →
            Each (IsAlive product rules order f k i (p ∷ ps)) (with_alive a.rule o (narrowed product rules i (vector_at order p) alive))
        by None e rest = rest
        by (Some w) e rest = (kept_alive a h.0 w e, rest)

    still_has :
        (alive : List Alive) (a : Alive) (w : ℕ) → Has alive a → weight_with product rules i (vector_at order p) a ≡ Some w →
        Has (narrowed product rules i (vector_at order p) alive) (record { rule = a.rule; weight = w })
    still_has [] a w h e = absurd h
    still_has (b ∷ alive) a w h e = elim h [
      | inl s ↦ subst (λ (c : Alive). Has (narrowed product rules i (vector_at order p) (b ∷ alive)) (record { rule = c.rule; weight = w })) s
          (own (weight_with product rules i (vector_at order p) b) (ap (weight_with product rules i (vector_at order p)) s ∙ e))
      | inr r ↦ other (weight_with product rules i (vector_at order p) b) (still_has alive a w r e)
    ]
      where
        own : (o : Option ℕ) → o ≡ Some w → Has (with_alive b.rule o (narrowed product rules i (vector_at order p) alive)) (record { rule = b.rule; weight = w })
        own None c = absurd (cc)
        own (Some x) c = inl (ap (λ y. record { rule = b.rule; weight = y }) (some_same x w c))

        other :
            (o : Option ℕ) → Has (narrowed product rules i (vector_at order p) alive) (record { rule = a.rule; weight = w }) →
            Has (with_alive b.rule o (narrowed product rules i (vector_at order p) alive)) (record { rule = a.rule; weight = w })
        other None r = r
        other (Some x) r = inr r

    -- the rules that are left, where p is up to n, and n itself if i is the place j
    pub narrowed_left :
        (n j : ℕ) → p ≤ n → (i ≡ j → p ≡ n) → (alive : List Alive) → AreLeft product rules order f k n j (suc i) ps alive →
        AreLeft product rules order f k n j i (p ∷ ps) (narrowed product rules i (vector_at order p) alive)
    narrowed_left n j up only alive h = record {
      sound = sound_still alive h.sound;
      whole = λ m w has weight low_weight on.
          let at = has_rule_place rules f k m has in
          let place : i < length (states_of rules m) = (let e = length-holes (rule_at rules m).right.kids (normal m at.below).are_holes in let r = at.many in omega (arith, low, e, r)) in
          let first = subst (λ (qs : List ℕ). IsWeight product qs (vectors_at order (p ∷ ps)) w) (drop_at (states_of rules m) i 0 place) weight in
          still_has alive (record { rule = m; weight = first.others }) w
          (h.whole m first.others has first.are (part_within product laws rules normal order f k first.residual first.others w first.is low_weight) (here m first.residual first.stands on))
          (ap (λ o. times product o (Some first.others)) (has_residual (vector_at order p) (get_or (states_of rules m) i 0) first.residual rises first.stands)
          ∙ ap cut first.is ∙ cut_within w low_weight);
    }
      where
        here : (m r : ℕ) → Has {A = ℕ × ℕ} (vector_at order p) (get_or (states_of rules m) i 0, r) → GoesOn rules order n j i m → GoesOn rules order n j (suc i) m
        here m r has on x before = elim (here_or_before x i before) [
          | inl e ↦ (p, up, λ at. only (sym e ∙ at), (r, subst (λ (q : ℕ). Has {A = ℕ × ℕ} (vector_at order p) (get_or (states_of rules m) q 0, r)) (sym e) has))
          | inr l ↦ on x l
        ]

  -- each rule that is alive has a state at the place before
  pub have_place : (i : ℕ) (ps : List ℕ) (alive : List Alive) → i < k → Each (IsAlive product rules order f k (suc i) ps) alive → Each (HasPlace rules i) alive
  have_place i ps [] low h = tt
  have_place i ps (a ∷ alive) low h = ((h.0.below, (let r = h.0.rank in omega (arith, low, r))), have_place i ps alive low h.1)

  -- the states after some positions have a weight
  pub weight_behind :
      (front ps : List ℕ) (qs : List ℕ) (w : ℕ) → IsWeight product qs (vectors_at order (front ++ ps)) w → w ≤ most →
      (v : ℕ) × IsWeight product (drop (length front) qs) (vectors_at order ps) v × (v ≤ most)
  weight_behind [] ps qs w h low = (w, h, low)
  weight_behind (p ∷ front) ps [] w h low = absurd h
  weight_behind (p ∷ front) ps (q ∷ qs) w h low = weight_behind front ps qs h.others h.are (part_within product laws rules normal order f k h.residual h.others w h.is low)
