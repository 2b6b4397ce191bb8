-- Lemmas on sparse vectors.
use Rattle.std.proofs.Common.{◌≡◌, ℕ, ◌+◌, ◌<◌, ◌≤◌, List, [], ◌∷◌, ◌++◌, length, get_or, drop, zero, suc, refl, arith, ap, ◌∙◌, subst, true, false, inl, inr, add-one}
use Rattle.std.specs.Prelude.{nat_eq, Option, None, Some, if◌then◌else◌, min}
use Rattle.tib_lex.specs.Lists.{Each}
use Rattle.tib_lex.proofs.Numbers.{nat_eq_cases}
use Rattle.tib_cost.specs.Least.{lesser}
use Rattle.tib_weigh.specs.Entries.{cost_in, IsAscending, EndsBy}
use Rattle.tib_weigh.specs.declared.vector.Entry.{Entry}

-- all states lie above q
abbrev pub Above : ℕ → List Entry → Type 0
Above q v = Each (λ e. q < e.state) v

pub cost_in-above : (v : List Entry) (q : ℕ) → Above q v → cost_in v q ≡ None
cost_in-above [] q h = refl
cost_in-above (e ∷ es) q h = elim (nat_eq_cases e.state q) [
  | inl y ↦ absurd (omega (arith, y.0, h.0))
  | inr n ↦ rw n.1 (cost_in-above es q h.1)
]

-- all states lie below q
pub cost_in-below : (v : List Entry) (q : ℕ) → Each (λ e. e.state < q) v → cost_in v q ≡ None
cost_in-below [] q h = refl
cost_in-below (e ∷ es) q h = elim (nat_eq_cases e.state q) [
  | inl y ↦ absurd (omega (arith, y.0, h.0))
  | inr n ↦ rw n.1 (cost_in-below es q h.1)
]

-- what is above another state
Above-more : (v : List Entry) (p q : ℕ) → p ≤ q → Above q v → Above p v
Above-more [] p q h a = tt
Above-more (e ∷ es) p q h a = (omega (arith, a.0), Above-more es p q h a.1)

-- entries up to one below q have no cost at q
pub passed_at : (v : List Entry) (m q : ℕ) (d : Entry) → IsAscending v → m < length v → (get_or v m d).state < q → cost_in (drop (m + 1) v) q ≡ cost_in v q
passed_at [] m q d a h lt = absurd (omega arith)
passed_at (e ∷ es) zero q d a h lt = elim (nat_eq_cases e.state q) [
  | inl y ↦ absurd (omega (arith, y.0))
  | inr n ↦ rw n.1 refl
]
passed_at (e ∷ es) (suc m) q d a h lt =
    elim (nat_eq_cases e.state q) [
      | inl y ↦ absurd (omega (arith, y.0, at_place es m d e.state a.0 (omega arith)))
      | inr n ↦
          let next : cost_in (drop (suc m) es) q ≡ cost_in es q = subst (λ k. cost_in (drop k es) q ≡ cost_in es q) (add-one m) (passed_at es m q d a.1 (omega arith) lt) in
          rw (add-one, n.1) next
    ]
  where
    at_place : (xs : List Entry) (k : ℕ) (d : Entry) (p : ℕ) → Each (λ x. p < x.state) xs → k < length xs → p < (get_or xs k d).state
    at_place [] k d p u l = absurd (omega arith)
    at_place (x ∷ xs) zero d p u l = u.0
    at_place (x ∷ xs) (suc k) d p u l = at_place xs k d p u.1 (omega arith)

-- from an entry that is not below q on, none is
pub rest_from : (v : List Entry) (m q : ℕ) (d : Entry) → IsAscending v → m < length v → q ≤ (get_or v m d).state → Each (λ e. q ≤ e.state) (drop m v)
rest_from [] m q d a h le = absurd (omega arith)
rest_from (e ∷ es) zero q d a h le = (le, weaken es a.0)
  where
    weaken : (xs : List Entry) → Each (λ x. e.state < x.state) xs → Each (λ x. q ≤ x.state) xs
    weaken [] u = tt
    weaken (x ∷ xs) u = (omega (arith, u.0, le), weaken xs u.1)
rest_from (e ∷ es) (suc m) q d a h le = rest_from es m q d a.1 (omega arith) le

IsAscending-drop : (v : List Entry) (m : ℕ) → IsAscending v → IsAscending (drop m v)
IsAscending-drop v zero a = a
IsAscending-drop [] (suc m) a = tt
IsAscending-drop (e ∷ es) (suc m) a = IsAscending-drop es m a.1

-- the cost at the first entry of the rest
pub cost_in-here : (v : List Entry) (m q : ℕ) (d : Entry) → m < length v → (get_or v m d).state ≡ q → cost_in (drop m v) q ≡ Some (get_or v m d).cost
cost_in-here [] m q d h e = absurd (omega arith)
cost_in-here (x ∷ xs) zero q d h e = elim (nat_eq_cases x.state q) [
  | inl y ↦ rw y.1 refl
  | inr n ↦ absurd (n.0 e)
]
cost_in-here (x ∷ xs) (suc m) q d h e = cost_in-here xs m q d (omega arith) e

first_above : (v : List Entry) (q : ℕ) → IsAscending v → Each (λ e. q ≤ e.state) v → ((e : Entry) (es : List Entry) → v ≡ e ∷ es → e.state ≡ q → ⊥) → cost_in v q ≡ None
first_above [] q a r other = refl
first_above (e ∷ es) q a r other =
    cost_in-above (e ∷ es) q (strict, Above-more es q e.state r.0 a.0)
  where
    strict : q < e.state
    strict = elim (nat_eq_cases e.state q) [
      | inl y ↦ absurd (other e es refl y.0)
      | inr n ↦ omega (arith, n.0, r.0)
    ]

-- no entry of the rest is that of q
pub cost_in-rest : (v : List Entry) (m q : ℕ) (d : Entry) → IsAscending v → Each (λ e. q ≤ e.state) (drop m v) → (m < length v → (get_or v m d).state ≡ q → ⊥) → cost_in (drop m v) q ≡ None
cost_in-rest [] zero q d a r other = refl
cost_in-rest [] (suc m) q d a r other = refl
cost_in-rest (e ∷ es) zero q d a r other = first_above (e ∷ es) q a r (λ x xs same. λ h. other (omega arith) (ap (λ (l : List Entry). (get_or l 0 d).state) same ∙ h))
cost_in-rest (e ∷ es) (suc m) q d a r other = cost_in-rest es m q d a.1 r (λ l. other (omega arith))

abbrev pub or_else : Option ℕ → Option ℕ → Option ℕ
or_else None w = w
or_else (Some c) w = Some c

pub cost_in-append : (v w : List Entry) (q : ℕ) → cost_in (v ++ w) q ≡ or_else (cost_in v q) (cost_in w q)
cost_in-append [] w q = refl
cost_in-append (e ∷ es) w q = elim (nat_eq_cases e.state q) [
  | inl y ↦ rw y.1 refl
  | inr n ↦ rw n.1 (cost_in-append es w q)
]

-- the front of a list that ends by q is below its last entry
pub front_below : (v : List Entry) (x : Entry) → IsAscending (v ++ x ∷ []) → Each (λ e. e.state < x.state) v
front_below [] x a = tt
front_below (e ∷ es) x a = (last_of es a.0, front_below es x a.1)
  where
    last_of : (xs : List Entry) → Each (λ f. e.state < f.state) (xs ++ x ∷ []) → e.state < x.state
    last_of [] u = u.0
    last_of (y ∷ ys) u = last_of ys u.1

pub IsAscending-front : (v : List Entry) (x : Entry) → IsAscending (v ++ x ∷ []) → IsAscending v
IsAscending-front [] x a = tt
IsAscending-front (e ∷ es) x a = (front_each es a.0, IsAscending-front es x a.1)
  where
    front_each : (xs : List Entry) → Each (λ f. e.state < f.state) (xs ++ x ∷ []) → Each (λ f. e.state < f.state) xs
    front_each [] u = tt
    front_each (y ∷ ys) u = (u.0, front_each ys u.1)

pub IsAscending-push : (v : List Entry) (x : Entry) → IsAscending v → Each (λ e. e.state < x.state) v → IsAscending (v ++ x ∷ [])
IsAscending-push [] x a b = (tt, tt)
IsAscending-push (e ∷ es) x a b = (push_each es a.0, IsAscending-push es x a.1 b.1)
  where
    push_each : (xs : List Entry) → Each (λ f. e.state < f.state) xs → Each (λ f. e.state < f.state) (xs ++ x ∷ [])
    push_each [] u = (b.0, tt)
    push_each (y ∷ ys) u = (u.0, push_each ys u.1)

pub EndsBy-push : (v : List Entry) (x : Entry) (q : ℕ) → EndsBy q v → x.state ≤ q → EndsBy q (v ++ x ∷ [])
EndsBy-push [] x q b h = (h, tt)
EndsBy-push (e ∷ es) x q b h = (b.0, EndsBy-push es x q b.1 h)

pub EndsBy-front : (v : List Entry) (x : Entry) (q : ℕ) → EndsBy q (v ++ x ∷ []) → EndsBy q v × (x.state ≤ q)
EndsBy-front [] x q b = (tt, b.0)
EndsBy-front (e ∷ es) x q b = let r = EndsBy-front es x q b.1 in ((b.0, r.0), r.1)

pub EndsBy-below : (v : List Entry) (p q : ℕ) → Each (λ e. e.state < p) v → p ≤ q → EndsBy q v
EndsBy-below [] p q b h = tt
EndsBy-below (e ∷ es) p q b h = (omega (arith, b.0), EndsBy-below es p q b.1 h)

pub EndsBy-more : (v : List Entry) (p q : ℕ) → EndsBy p v → p ≤ q → EndsBy q v
EndsBy-more [] p q b h = tt
EndsBy-more (e ∷ es) p q b h = (omega (arith, b.0), EndsBy-more es p q b.1 h)

below_last : (v : List Entry) (p q : ℕ) → Each (λ e. e.state < p) v → p ≤ q → Each (λ e. e.state < q) v
below_last [] p q b h = tt
below_last (e ∷ es) p q b h = (omega (arith, b.0), below_last es p q b.1 h)

abbrev entry : ℕ → ℕ → Entry
entry q c = record { state = q; cost = c }

-- what is known after a cost was added
pub record Added (old new : List Entry) (q c : ℕ) : Type 0 where
  pub ascends : IsAscending new
  pub last : EndsBy q new
  pub costs : (p : ℕ) → cost_in new p ≡ (if nat_eq q p then lesser (cost_in old p) (Some c) else cost_in old p)

-- after entries with states below, an entry of a state of its own
pub added_last : (v : List Entry) (q c : ℕ) → IsAscending v → Each (λ e. e.state < q) v → Added v (v ++ entry q c ∷ []) q c
added_last v q c a b = record {
  ascends = IsAscending-push v (entry q c) a b;
  last = EndsBy-push v (entry q c) q (EndsBy-below v q q b (omega arith)) (omega arith);
  costs = λ p. rw (cost_in-append v (entry q c ∷ []) p) (elim (nat_eq_cases q p) [
    | inl y ↦ let none : cost_in v p ≡ None = subst (λ r. cost_in v r ≡ None) y.0 (cost_in-below v q b) in rw (y.1, none) refl
    | inr n ↦ rw n.1 (keeps (cost_in v p))
  ]);
}
  where
    keeps : (o : Option ℕ) → or_else o None ≡ o
    keeps None = refl
    keeps (Some x) = refl

-- in the place of an entry of the same state
pub added_over : (v : List Entry) (x : Entry) (q c : ℕ) → IsAscending (v ++ x ∷ []) → x.state ≡ q → Added (v ++ x ∷ []) (v ++ entry q (min x.cost c) ∷ []) q c
added_over v x q c a e =
    let below : Each (λ f. f.state < q) v = subst (λ r. Each (λ f. f.state < r) v) e (front_below v x a) in
    let none : cost_in v q ≡ None = cost_in-below v q below in
    record {
      ascends = IsAscending-push v (entry q (min x.cost c)) (IsAscending-front v x a) below;
      last = EndsBy-push v (entry q (min x.cost c)) q (EndsBy-below v q q below (omega arith)) (omega arith);
      costs = λ p. rw (cost_in-append v (entry q (min x.cost c) ∷ []) p, cost_in-append v (x ∷ []) p) (elim (nat_eq_cases q p) [
        | inl y ↦
            let none_p : cost_in v p ≡ None = subst (λ r. cost_in v r ≡ None) y.0 none in
            let x_is : nat_eq x.state p ≡ true = rw (e, y.1) refl in
            rw (y.1, none_p, x_is) refl
        | inr n ↦ let x_not : nat_eq x.state p ≡ false = rw (e, n.1) refl in rw (n.1, x_not) refl
      ]);
    }

-- after an entry of a lesser state
pub added_after : (v : List Entry) (x : Entry) (q c : ℕ) → IsAscending (v ++ x ∷ []) → EndsBy q (v ++ x ∷ []) → (x.state ≡ q → ⊥) → Added (v ++ x ∷ []) ((v ++ x ∷ []) ++ entry q c ∷ []) q c
added_after v x q c a b other =
    let ends = EndsBy-front v x q b in
    let lt : x.state < q = lesser_state (ends.1) in
    added_last (v ++ x ∷ []) q c a (both v (below_last v x.state q (front_below v x a) (omega arith)) lt)
  where
    lesser_state : x.state ≤ q → x.state < q
    lesser_state le = elim (nat_eq_cases x.state q) [ inl y ↦ absurd (other y.0) | inr n ↦ omega (arith, n.0) ]

    both : (w : List Entry) → Each (λ e. e.state < q) w → x.state < q → Each (λ e. e.state < q) (w ++ x ∷ [])
    both [] u l = (l, tt)
    both (y ∷ ys) u l = (u.0, both ys u.1 l)
