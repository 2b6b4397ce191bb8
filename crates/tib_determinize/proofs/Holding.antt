-- Positions are added to the lists of states.
use Rattle.std.specs.Prelude.{◌≡◌, ◌⊎◌, ℕ, ◌+◌, ◌<◌, ◌≤◌, nat_eq, if◌then◌else◌, Bool, true, false, List, [], ◌∷◌, ◌++◌, length, map, take, nat_lt, IsTrue, refl}
use Rattle.std.specs.Global.{Vec}
use Rattle.std.proofs.Common.{zero, suc, arith, ap, sym, ◌∙◌, subst, set, get_or, inl, inr, length-append, length-take-le}
use Rattle.std.proofs.lemmas.List.{get_or-set_same, get_or-set_other, map-set, length-map, get_or-map, get_or-take, get_or_append_left, get_or_at}
use Rattle.std.proofs.lemmas.Bool.Decides.{nat_tests}
use Rattle.tib_lex.specs.Lists.{Has, Each}
use Rattle.tib_lex.proofs.Lists.{each_weaker}
use Rattle.tib_lex.proofs.Members.{at_has, each_has, each_more, has_at, has_left, has_right}
use Rattle.tib_lex.proofs.Numbers.{nat_eq_cases}
use Rattle.tib_determinize.specs.Alive.{AreAscending}
use Rattle.tib_determinize.specs.Holders.{AddsVector, AreHolders, AscendUpTo, held, is_marked, HoldMore, HoldSame, HoldsOneMore}
use Rattle.tib_determinize.specs.Vectors.{VectorOf, vector_at}

-- one more list
pub one_more : {A : Type 0} (bs : List (Vec A)) (v : Vec A) → HoldMore bs (bs ++ v ∷ [])
one_more [] v q p h = absurd h
one_more (b ∷ bs) v zero p h = h
one_more (b ∷ bs) v (suc q) p h = one_more bs v q p h

-- one more list, without values
pub one_empty : {A : Type 0} (bs : List (Vec A)) (v : Vec A) → v.items ≡ [] → HoldSame bs (bs ++ v ∷ [])
one_empty [] v e zero = e
one_empty [] v e (suc q) = refl
one_empty (b ∷ bs) v e zero = refl
one_empty (b ∷ bs) v e (suc q) = one_empty bs v e q

module _ {A : Type 0} (bs : List (Vec A)) (s : ℕ) (p : A) (v : Vec A) (low : s < length bs) (is : v.items ≡ held bs s ++ p ∷ []) where
  same_state : held (set bs s v) s ≡ held bs s ++ p ∷ []
  same_state = now ∙ is
    where
      now : get_or (map (λ (b : Vec A). b.items) (set bs s v)) s [] ≡ v.items
      now = rw (map-set (λ (b : Vec A). b.items) bs s v) (get_or-set_same (map (λ (b : Vec A). b.items) bs) s v.items [] (omega (arith, low, length-map bs (λ (b : Vec A). b.items))))

  other_state : (q : ℕ) → (q ≡ s → ⊥) → held (set bs s v) q ≡ held bs q
  other_state q n = rw (map-set (λ (b : Vec A). b.items) bs s v) (get_or-set_other (map (λ (b : Vec A). b.items) bs) s q v.items [] n)

  -- one more position at a state
  pub position_added : HoldMore bs (set bs s v)
  position_added q x h = elim (nat_eq_cases q s) [
    | inl k ↦ subst (λ (m : ℕ). Has (held (set bs s v) m) x) (sym k.0) (subst (λ (xs : List A). Has xs x) (sym same_state) (has_left (held bs s) (p ∷ []) x (subst (λ (m : ℕ). Has (held bs m) x) k.0 h)))
    | inr k ↦ subst (λ (xs : List A). Has xs x) (sym (other_state q k.0)) h
  ]

  pub position_stands : Has (held (set bs s v) s) p
  position_stands = subst (λ (xs : List A). Has xs p) (sym same_state) (has_right (held bs s) (p ∷ []) p (inl refl))

-- one more position at a state, whose list was b
pub position_set : (old bs : List (Vec ℕ)) (s p : ℕ) (v b : Vec ℕ) → HoldSame old bs → s < length bs → b ≡ get_or bs s b → v.items ≡ b.items ++ p ∷ [] → HoldsOneMore s p old (set bs s v)
position_set old bs s p v b same low at is q = elim (nat_eq_cases s q) [
  | inl k ↦ rw k.1 (ap (λ (m : ℕ). held (set bs s v) m) (sym k.0) ∙ same_state bs s p v low own ∙ ap (λ (m : ℕ). held bs m ++ p ∷ []) k.0 ∙ ap (λ (xs : List ℕ). xs ++ p ∷ []) (same q))
  | inr k ↦ rw k.1 (other_state bs s p v low own q (λ e. k.0 (sym e)) ∙ same q)
]
  where
    own : v.items ≡ held bs s ++ p ∷ []
    own = is ∙ ap (λ (xs : List ℕ). xs ++ p ∷ []) (ap (λ (x : Vec ℕ). x.items) at ∙ sym (get_or-map (λ (x : Vec ℕ). x.items) bs s b [] low))

-- what a state has with one position more
own_list : (s p q : ℕ) (old new : List (Vec ℕ)) → HoldsOneMore s p old new → nat_eq s q ≡ true → held new q ≡ held old q ++ p ∷ []
own_list s p q old new more e = more q ∙ ap (λ b. if b then held old q ++ p ∷ [] else held old q) e

other_list : (s p q : ℕ) (old new : List (Vec ℕ)) → HoldsOneMore s p old new → nat_eq s q ≡ false → held new q ≡ held old q
other_list s p q old new more e = more q ∙ ap (λ b. if b then held old q ++ p ∷ [] else held old q) e

pub more_held : (s p : ℕ) (old new : List (Vec ℕ)) → HoldsOneMore s p old new → HoldMore old new
more_held s p old new more q x h = elim (nat_eq_cases s q) [
  | inl k ↦ subst (λ (xs : List ℕ). Has xs x) (sym (own_list s p q old new more k.1)) (has_left (held old q) (p ∷ []) x h)
  | inr k ↦ subst (λ (xs : List ℕ). Has xs x) (sym (other_list s p q old new more k.1)) h
]

pub own_held : (s p : ℕ) (old new : List (Vec ℕ)) → HoldsOneMore s p old new → Has (held new s) p
own_held s p old new more = elim (nat_eq_cases s s) [
  | inl k ↦ subst (λ (xs : List ℕ). Has xs p) (sym (own_list s p s old new more k.1)) (has_right (held old s) (p ∷ []) p (inl refl))
  | inr k ↦ absurd (k.0 refl)
]

before_or_last : (m n : ℕ) → m < n + 1 → (m < n) ⊎ (m ≡ n)
before_or_last m n h = grind arith

-- one more position that is not below those before it
ascending_more : (xs : List ℕ) (p : ℕ) → AreAscending xs → Each (λ x. x ≤ p) xs → AreAscending (xs ++ p ∷ [])
ascending_more xs p up all i m low high =
    let long = length-append xs (p ∷ []) in
    elim (before_or_last m (length xs) (omega (arith, high, long))) [
      | inl l ↦ rw (get_or_append_left xs (p ∷ []) 0 i (omega (arith, low, l))) (rw (get_or_append_left xs (p ∷ []) 0 m l) (up i m low l))
      | inr e ↦
          let at : get_or (xs ++ p ∷ []) m 0 ≡ p = get_or_at xs p [] 0 m (sym e) in
          let below : i < length xs = omega (arith, low, e) in
          let is = get_or_append_left xs (p ∷ []) 0 i below in
          let least = each_has (λ x. x ≤ p) xs (get_or xs i 0) all (has_at xs i 0 below) in
          omega (arith, at, is, least)
    ]

pub ascend_more : (s p : ℕ) (old new : List (Vec ℕ)) → HoldsOneMore s p old new → AscendUpTo p old → AscendUpTo p new
ascend_more s p old new more up q = elim (nat_eq_cases s q) [
  | inl k ↦
      let is = own_list s p q old new more k.1 in (
        subst AreAscending (sym is) (ascending_more (held old q) p (up q).0 (up q).1),
        subst (Each (λ x. x ≤ p)) (sym is) (each_more (λ x. x ≤ p) (held old q) p (up q).1 (omega arith)),
      )
  | inr k ↦
      let is = other_list s p q old new more k.1 in
      (subst AreAscending (sym is) (up q).0, subst (Each (λ x. x ≤ p)) (sym is) (up q).1)
]

-- an order that is cut has vectors before the cut
low_of : (order : List VectorOf) (n p : ℕ) (x : ℕ × ℕ) → Has (vector_at (take n order) p) x → p < n
low_of [] zero p x h = absurd h
low_of [] (suc n) p x h = absurd h
low_of (v ∷ order) zero p x h = absurd h
low_of (v ∷ order) (suc n) zero x h = omega arith
low_of (v ∷ order) (suc n) (suc p) x h = let r = low_of order n p x h in omega (arith, r)

-- one vector more of an order
pub next_holders :
    (marks : List Bool) (order : List VectorOf) (p : ℕ) (old new : List (Vec ℕ)) → p < length order → AddsVector marks (vector_at order p) p old new →
    AreHolders marks (take p order) old → AreHolders marks (take (p + 1) order) new
next_holders marks order p old new low adds h = record {
  whole = λ m q r marked has. elim (before_or_last m p (low_of order (p + 1) m (q, r) has)) [
    | inl l ↦ adds.more q m (h.whole m q r marked (subst (λ (v : VectorOf). Has {A = ℕ × ℕ} v (q, r)) (get_or-take (p + 1) order m [] (omega (arith, l)) ∙ sym (get_or-take p order m [] l)) has))
    | inr e ↦
        let there : vector_at (take (p + 1) order) m ≡ vector_at order p = get_or-take (p + 1) order m [] (omega (arith, e)) ∙ ap (vector_at order) e in
        subst (λ (x : ℕ). Has (held new q) x) (sym e) (adds.own q r marked (subst (λ (v : VectorOf). Has {A = ℕ × ℕ} v (q, r)) there has))
  ];
  ascend = λ q. (now q).0;
  below = λ q. each_weaker (λ x. x ≤ p) (λ x. x < length (take (p + 1) order)) (held new q) (λ x l. let t = length-take-le (p + 1) order (omega (arith, low)) in omega (arith, l, t)) (now q).1;
}
  where
    old_up : AscendUpTo p old
    old_up q = (h.ascend q, each_weaker (λ x. x < length (take p order)) (λ x. x ≤ p) (held old q) (λ x l. let t = length-take-le p order (omega (arith, low)) in omega (arith, l, t)) (h.below q))

    now : AscendUpTo p new
    now = adds.ascend old_up

-- the positions of no order
pub no_holders : (marks : List Bool) (lists : List (Vec ℕ)) → lists ≡ [] → AreHolders marks [] lists
no_holders marks lists none = subst (AreHolders marks []) (sym none) (record { whole = λ p q r marked has. absurd has; ascend = λ q i m low high. absurd (omega (arith, high)); below = λ q. tt })

taken_has : (xs : List ℕ) (many i : ℕ) → i < many → i < length xs → Has (take many xs) (get_or xs i 0)
taken_has [] many i low in_list = absurd (omega (arith, in_list))
taken_has (x ∷ xs) zero i low in_list = absurd (omega (arith, low))
taken_has (x ∷ xs) (suc many) zero low in_list = inl refl
taken_has (x ∷ xs) (suc many) (suc i) low in_list = inr (taken_has xs many i (omega (arith, low)) (omega (arith, in_list)))

-- a position below a bound is among as many as are below it
pub below_has :
    (xs : List ℕ) (many bound p : ℕ) → ((i : ℕ) → many ≤ i → i < length xs → bound ≤ get_or xs i 0) → p < bound → Has xs p → Has (take many xs) p
below_has xs many bound p behind low has =
    let a = at_has xs p 0 has in
    let is = a.2 in
    elim (lesser_or_not a.0 many) [
      | inl l ↦ subst (λ (x : ℕ). Has (take many xs) x) is (taken_has xs many a.0 l a.1)
      | inr g ↦ (let b = behind a.0 g a.1 in absurd (omega (arith, b, is, low)))
    ]
  where
    lesser_or_not : (i m : ℕ) → (i < m) ⊎ (m ≤ i)
    lesser_or_not i m = grind arith

less_is_true : (a b : ℕ) → a < b → IsTrue (nat_lt a b)
less_is_true a b h = grind (arith, nat_tests, h)

-- the first position is below a bound if some position is
pub first_below : (xs : List ℕ) (bound p : ℕ) → AreAscending xs → p < bound → Has xs p → IsTrue (nat_lt (get_or xs 0 0) bound)
first_below xs bound p up low has =
    let a = at_has xs p 0 has in
    let at = a.2 in
    let low_place = a.1 in
    less_is_true (get_or xs 0 0) bound (elim (first_or_later a.0) [
      | inl z ↦ (let e = ap (λ n. get_or xs n 0) z in omega (arith, at, e, low))
      | inr l ↦ (let u = up 0 a.0 l low_place in omega (arith, at, u, low))
    ])
  where
    first_or_later : (n : ℕ) → (n ≡ 0) ⊎ (0 < n)
    first_or_later n = grind arith

-- one more entry of a vector
pub next_own :
    (marks : List Bool) (entries : VectorOf) (n p q : ℕ) (old new : List (Vec ℕ)) → q ≡ (get_or entries n (0, 0)).0 → HoldMore old new → (is_marked marks q ≡ true → Has (held new q) p) →
    ((m : ℕ) → m < n → is_marked marks (get_or entries m (0, 0)).0 ≡ true → Has (held old (get_or entries m (0, 0)).0) p) →
    (m : ℕ) → m < n + 1 → is_marked marks (get_or entries m (0, 0)).0 ≡ true → Has (held new (get_or entries m (0, 0)).0) p
next_own marks entries n p q old new is more own before m low marked = elim (before_or_last m n low) [
  | inl l ↦ more (get_or entries m (0, 0)).0 p (before m l marked)
  | inr e ↦
      let same : q ≡ (get_or entries m (0, 0)).0 = is ∙ ap (λ (x : ℕ). (get_or entries x (0, 0)).0) (sym e) in
      subst (λ (x : ℕ). Has (held new x) p) same (own (subst (λ (x : ℕ). is_marked marks x ≡ true) (sym same) marked))
]
