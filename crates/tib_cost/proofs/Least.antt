-- The least cost of a set, and how it is composed.
use Rattle.std.specs.Prelude.{◌≡◌, ℕ, min, ◌<◌, ◌≤◌, Bool, Option, None, Some, ◌⊎◌, refl}
use Rattle.std.proofs.Common.{arith, inl, inr, ap, sym, le_refl, le_trans, subst}
use Rattle.std.proofs.lemmas.Bool.Decides.{nat_tests}
use Rattle.tib_cost.specs.Semiring.{most, cut, ProductLaws}
use Rattle.tib_cost.specs.Least.{IsMember, IsLeast, lesser, times, Products}

-- at most one cost is the least
pub IsLeast-unique : {S : ℕ → Type 0} {v w : Option ℕ} → IsLeast S v → IsLeast S w → v ≡ w
IsLeast-unique {v = None} {w = None} h k = refl
IsLeast-unique {v = None} {w = Some b} h k = absurd (h.lower b k.attained.0 k.attained.1)
IsLeast-unique {v = Some a} {w = None} h k = absurd (k.lower a h.attained.0 h.attained.1)
IsLeast-unique {v = Some a} {w = Some b} h k =
    let up : a ≤ b = h.lower b k.attained.0 k.attained.1 in
    let down : b ≤ a = k.lower a h.attained.0 h.attained.1 in
    let e : a ≡ b = omega arith in
    ap Some e

IsMember-to : {S T : ℕ → Type 0} (v : Option ℕ) → ((n : ℕ) → S n → T n) → IsMember S v → IsMember T v
IsMember-to None to m = tt
IsMember-to (Some a) to m = (to a m.0, m.1)

-- two sets with the same costs have the same least
pub IsLeast-same : {S T : ℕ → Type 0} {v : Option ℕ} → ((n : ℕ) → S n → T n) → ((n : ℕ) → T n → S n) → IsLeast S v → IsLeast T v
IsLeast-same {v = v} to from h = record {
  attained = IsMember-to v to h.attained;
  lower = λ n t b. h.lower n (from n t) b;
}

-- an empty set
pub IsLeast-none : {S : ℕ → Type 0} → ((n : ℕ) → S n → ⊥) → IsLeast S None
IsLeast-none empty = record { attained = tt; lower = λ n s b. empty n s }

-- what a cut is
pub cut-cases : (a : ℕ) → ((a ≤ most) × (cut a ≡ Some a)) ⊎ ((most < a) × (cut a ≡ None))
cut-cases a = grind (arith, nat_tests)

-- the set of one number
pub IsLeast-one : (a : ℕ) → IsLeast (λ n. n ≡ a) (cut a)
IsLeast-one a = elim (cut-cases a) [
  | inl h ↦ rw h.1 record { attained = (refl, h.0); lower = λ n e b. omega arith }
  | inr h ↦ rw h.1 record { attained = tt; lower = λ n e b. absurd (omega arith) }
]

min-cases : (a b : ℕ) → (min a b ≡ a) ⊎ (min a b ≡ b)
min-cases a b = grind arith

-- the numbers of either set
pub IsLeast-either :
    {S T : ℕ → Type 0} {v w : Option ℕ} → IsLeast S v → IsLeast T w → IsLeast (λ n. S n ⊎ T n) (lesser v w)
IsLeast-either {v = None} {w = w} h k = record {
  attained = IsMember-to w (λ n. inr) k.attained;
  lower = λ n m b. elim m [ inl s ↦ absurd (h.lower n s b) | inr t ↦ k.lower n t b ];
}
IsLeast-either {v = Some a} {w = None} h k = record {
  attained = (inl h.attained.0, h.attained.1);
  lower = λ n m b. elim m [ inl s ↦ h.lower n s b | inr t ↦ absurd (k.lower n t b) ];
}
IsLeast-either {S} {T} {v = Some a} {w = Some b} h k = record {
  attained = elim (min-cases a b) [
    | inl e ↦ (inl (subst S (sym e) h.attained.0), omega (arith, h.attained.1))
    | inr e ↦ (inr (subst T (sym e) k.attained.0), omega (arith, k.attained.1))
  ];
  lower = λ n m b. elim m [ inl s ↦ omega (arith, h.lower n s b) | inr t ↦ omega (arith, k.lower n t b) ];
}

module _ {levelled weighted : Bool} {product : ℕ → ℕ → ℕ} (laws : ProductLaws levelled weighted product) where
  pub at_least_right : (a b : ℕ) → b ≤ product a b
  at_least_right a b = rw laws.commutes (laws.at_least b a)

  pub grows_both : (a b c d : ℕ) → a ≤ c → b ≤ d → product a b ≤ product c d
  grows_both a b c d h k =
      le_trans
      (laws.grows a b d k)
      (rw (laws.commutes a d, laws.commutes c d) (laws.grows d a c h))

  pub IsLeast-products :
      {S T : ℕ → Type 0} {v w : Option ℕ} → IsLeast S v → IsLeast T w → IsLeast (Products product S T) (times product v w)
  IsLeast-products {v = None} {w = w} h k = record {
    attained = tt;
    lower = λ n p b. h.lower p.0 p.2 (omega (arith, laws.at_least p.0 p.1, p.4));
  }
  IsLeast-products {v = Some a} {w = None} h k = record {
    attained = tt;
    lower = λ n p b. k.lower p.1 p.3 (omega (arith, at_least_right p.0 p.1, p.4));
  }
  IsLeast-products {S} {T} {v = Some a} {w = Some b} h k = elim (cut-cases (product a b)) [
    | inl c ↦ rw c.1 record {
      attained = ((a, b, h.attained.0, k.attained.0, refl), c.0);
      lower = λ n p m. rw (← p.4) (lower n p m);
    }
    | inr c ↦ rw c.1 record {
      attained = tt;
      lower = λ n p m. omega (arith, lower n p m, p.4, c.0, m);
    }
  ]
    where
      lower : (n : ℕ) (p : Products product S T n) → n ≤ most → product a b ≤ product p.0 p.1
      lower n p m =
          grows_both
          a
          b
          p.0
          p.1
          (h.lower p.0 p.2 (omega (arith, laws.at_least p.0 p.1, p.4)))
          (k.lower p.1 p.3 (omega (arith, at_least_right p.0 p.1, p.4)))

  -- the products of one number and a member
  pub IsLeast-scaled :
      {T : ℕ → Type 0} {w : Option ℕ} (a : ℕ) → IsLeast T w → IsLeast (Products product (λ n. n ≡ a) T) (times product (Some a) w)
  IsLeast-scaled {T} {w} a h = subst (IsLeast (Products product (λ n. n ≡ a) T)) (cut_first w) (IsLeast-products (IsLeast-one a) h)
    where
      cut_first : (w : Option ℕ) → times product (cut a) w ≡ times product (Some a) w
      cut_first None = elim (cut-cases a) [ inl c ↦ rw c.1 | inr c ↦ rw c.1 ]
      cut_first (Some b) = elim (cut-cases a) [
        | inl c ↦ rw c.1
        | inr c ↦ rw c.1 (sym (above (omega (arith, laws.at_least a b, c.0))))
      ]
        where
          above : most < product a b → cut (product a b) ≡ None
          above h = elim (cut-cases (product a b)) [ inl c ↦ absurd (omega arith) | inr c ↦ c.1 ]

-- a set with no more members than another, where the least is in it
pub IsLeast-either_none : {S T : ℕ → Type 0} {v : Option ℕ} → ((n : ℕ) → T n → ⊥) → IsLeast S v → IsLeast (λ n. S n ⊎ T n) v
IsLeast-either_none empty h =
    IsLeast-same (λ n. inl) (λ n m. elim m [ inl s ↦ s | inr t ↦ absurd (empty n t) ]) h

-- If each cost of either set has one in the other that is not greater, both sets have the same
-- least cost. The sets may differ, as where only the cheapest of equal rules is kept.
pub IsLeast-dominated :
    {S T : ℕ → Type 0} {v : Option ℕ} → ((n : ℕ) → S n → n ≤ most → (m : ℕ) × T m × (m ≤ n)) →
    ((n : ℕ) → T n → n ≤ most → (m : ℕ) × S m × (m ≤ n)) → IsLeast S v → IsLeast T v
IsLeast-dominated {v = None} to from h = record {
  attained = tt;
  lower = λ n t b. let s = from n t b in h.lower s.0 s.1 (omega (arith, s.2));
}
IsLeast-dominated {S} {T} {v = Some a} to from h =
    let t = to a h.attained.0 h.attained.1 in
    let s = from t.0 t.1 (omega (arith, t.2, h.attained.1)) in
    let up : a ≤ s.0 = h.lower s.0 s.1 (omega (arith, s.2, t.2, h.attained.1)) in
    let e : t.0 ≡ a = omega (arith, up, s.2, t.2) in
    record {
      attained = (subst T e t.1, h.attained.1);
      lower = λ n u b. let k = from n u b in let low : a ≤ k.0 = h.lower k.0 k.1 (omega (arith, k.2)) in omega (arith, low, k.2);
    }

-- the least over a family of sets is the least of their leasts, however many they are
pub IsLeast-family :
    {X : Type 0} {S : X → ℕ → Type 0} (w : X → Option ℕ) {v : Option ℕ} → ((x : X) → IsLeast (S x) (w x)) →
    IsLeast (λ n. (x : X) × (w x ≡ Some n)) v → IsLeast (λ n. (x : X) × S x n) v
IsLeast-family {X} {S} w each h =
    IsLeast-dominated
    (λ n m b. (n, (m.0, in_set (w m.0) n (each m.0) m.1), le_refl n))
    (λ n m b. least_of (w m.0) m.0 n (each m.0) refl m.1 b)
    h
  where
    in_set : {T : ℕ → Type 0} (u : Option ℕ) (n : ℕ) → IsLeast T u → u ≡ Some n → T n
    in_set {T} None n k e = absurd (cc)
    in_set {T} (Some a) n k e = let same : a ≡ n = cc in subst T same k.attained.0

    least_of : (u : Option ℕ) (x : X) (n : ℕ) → IsLeast (S x) u → w x ≡ u → S x n → n ≤ most → (m : ℕ) × ((y : X) × (w y ≡ Some m)) × (m ≤ n)
    least_of None x n k e s b = absurd (k.lower n s b)
    least_of (Some a) x n k e s b = (a, (x, e), k.lower n s b)
