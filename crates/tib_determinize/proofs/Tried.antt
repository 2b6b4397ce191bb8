-- The lists that are tried for a position are its candidates.
use Rattle.std.specs.Prelude.{◌≡◌, ◌⊎◌, ℕ, ◌+◌, ◌<◌, ◌≤◌, nat_eq, nat_lt, Bool, true, false, List, [], ◌∷◌, ◌++◌, length, if◌then◌else◌, refl}
use Rattle.std.proofs.Common.{zero, suc, arith, ap, sym, ◌∙◌, subst, inl, inr, append_assoc, length-append}
use Rattle.tib_lex.specs.Lists.{Has, Each}
use Rattle.tib_lex.proofs.Members.{has_either, has_left, has_right}
use Rattle.tib_lex.proofs.Lists.{each_append}
use Rattle.tib_determinize.specs.Tries.{first_at, many_at, span, under}
use Rattle.tib_determinize.proofs.Walked.{span_has}

-- p may be at the place i, where n is last at j
abbrev pub IsAllowed : ℕ → ℕ → ℕ → ℕ → Type 0
IsAllowed n j i p = (first_at n j i ≤ p) × (p < first_at n j i + many_at n j i)

-- the positions at i places, from the last on
abbrev pub AreAllowed : ℕ → ℕ → ℕ → List ℕ → Type 0
AreAllowed n j zero front = front ≡ []
AreAllowed n j (suc i) front = (before : List ℕ) × (p : ℕ) × (front ≡ before ++ p ∷ []) × IsAllowed n j i p × AreAllowed n j i before

first_or_later : (p q : ℕ) → p ≤ q → (p ≡ q) ⊎ (suc p ≤ q)
first_or_later p q l = grind arith

pub where_is : (j i : ℕ) → j < suc i → (j ≡ i) ⊎ (j < i)
where_is j i l = grind arith

head_same : (x y : ℕ) (xs ys : List ℕ) → ◌≡◌ {A = List ℕ} (x ∷ xs) (y ∷ ys) → x ≡ y
head_same x y xs ys e = cc

tail_same : (x y : ℕ) (xs ys : List ℕ) → ◌≡◌ {A = List ℕ} (x ∷ xs) (y ∷ ys) → xs ≡ ys
tail_same x y xs ys e = cc

pub span_at : {A : Type 0} (g : ℕ → List A) (p c q : ℕ) (x : A) → p ≤ q → q < p + c → Has (g q) x → Has (span g p c) x
span_at g p zero q x l h has = absurd (omega arith)
span_at g p (suc c) q x l h has = elim (first_or_later p q l) [
  | inl e ↦ has_left (g p) (span g (suc p) c) x (subst (λ m. Has (g m) x) (sym e) has)
  | inr m ↦ has_right (g p) (span g (suc p) c) x (span_at g (suc p) c q x m (omega arith) has)
]

-- each list that is under some positions is one of allowed ones before them
pub under_is : (n j i : ℕ) (ps xs : List ℕ) → Has (under n j i ps) xs → (front : List ℕ) × (xs ≡ front ++ ps) × AreAllowed n j i front
under_is n j zero ps xs h = elim h [ inl e ↦ ([], sym e, refl) | inr k ↦ absurd k ]
under_is n j (suc i) ps xs h =
    let s = span_has (λ p. under n j i (p ∷ ps)) (first_at n j i) (many_at n j i) xs h in
    let r = under_is n j i (s.0 ∷ ps) xs s.3 in (
      r.0 ++ s.0 ∷ [],
      r.1 ∙ sym (append_assoc r.0 (s.0 ∷ []) ps),
      (r.0, s.0, refl, (s.1, s.2), r.2),
    )

-- and the other way round
pub is_under : (n j i : ℕ) (ps front : List ℕ) → AreAllowed n j i front → Has (under n j i ps) (front ++ ps)
is_under n j zero ps front e = inl (ap (λ (xs : List ℕ). xs ++ ps) (sym e))
is_under n j (suc i) ps front (before, p, e, allowed, rest) =
    subst (Has (under n j (suc i) ps)) (sym (ap (λ (xs : List ℕ). xs ++ ps) e ∙ append_assoc before (p ∷ []) ps))
    (span_at (λ q. under n j i (q ∷ ps)) (first_at n j i) (many_at n j i) p (before ++ p ∷ ps) allowed.0 allowed.1 (is_under n j i (p ∷ ps) before rest))

pub allowed_long : (n j i : ℕ) (front : List ℕ) → AreAllowed n j i front → length front ≡ i
allowed_long n j zero front e = ap length e
allowed_long n j (suc i) front (before, p, e, allowed, rest) = (let r = allowed_long n j i before rest in let l = length-append before (p ∷ []) in let m = ap length e in omega (arith, r, l, m))

-- what is allowed at a place
pub at_last : (n j p : ℕ) → IsAllowed n j j p → p ≡ n
at_last n j p h = by (nat_eq j j) (same j) h.0 h.1
  where
    same : (m : ℕ) → nat_eq m m ≡ true
    same m = grind arith

    by : (b : Bool) → b ≡ true → (if b then n else 0) ≤ p → p < (if b then n else 0) + (if b then 1 else (if nat_lt j j then n else suc n)) → p ≡ n
    by true e l h = omega (arith, l, h)
    by false e l h = absurd (cc)

behind_last : (n j i p : ℕ) → j < i → IsAllowed n j i p → p < n
behind_last n j i p low h = by (nat_eq i j) (nat_lt j i) (other i j low) (less j i low) h.0 h.1
  where
    other : (i j : ℕ) → j < i → nat_eq i j ≡ false
    other i j h = grind arith

    less : (j i : ℕ) → j < i → nat_lt j i ≡ true
    less j i h = grind arith

    by : (b d : Bool) → b ≡ false → d ≡ true → (if b then n else 0) ≤ p → p < (if b then n else 0) + (if b then 1 else (if d then n else suc n)) → p < n
    by true d e k l h = absurd (cc)
    by false true e k l h = omega (arith, h)
    by false false e k l h = absurd (cc)

up_to : (n j i p : ℕ) → IsAllowed n j i p → p ≤ n
up_to n j i p h = by (nat_eq i j) (nat_lt j i) h.0 h.1
  where
    by : (b d : Bool) → (if b then n else 0) ≤ p → p < (if b then n else 0) + (if b then 1 else (if d then n else suc n)) → p ≤ n
    by true d l h = omega (arith, h)
    by false true l h = omega (arith, h)
    by false false l h = omega (arith, h)

allow_last : (n j : ℕ) → IsAllowed n j j n
allow_last n j = by (nat_eq j j) (same j)
  where
    same : (m : ℕ) → nat_eq m m ≡ true
    same m = grind arith

    by : (b : Bool) → b ≡ true → ((if b then n else 0) ≤ n) × (n < (if b then n else 0) + (if b then 1 else (if nat_lt j j then n else suc n)))
    by true e = (omega arith, omega arith)
    by false e = absurd (cc)

allow_behind : (n j i p : ℕ) → j < i → p < n → IsAllowed n j i p
allow_behind n j i p low h = by (nat_eq i j) (nat_lt j i) (other i j low) (less j i low)
  where
    other : (i j : ℕ) → j < i → nat_eq i j ≡ false
    other i j h = grind arith

    less : (j i : ℕ) → j < i → nat_lt j i ≡ true
    less j i h = grind arith

    by : (b d : Bool) → b ≡ false → d ≡ true → ((if b then n else 0) ≤ p) × (p < (if b then n else 0) + (if b then 1 else (if d then n else suc n)))
    by true d e k = absurd (cc)
    by false true e k = (omega arith, omega (arith, h))
    by false false e k = absurd (cc)

allow_before : (n j i p : ℕ) → i < j → p ≤ n → IsAllowed n j i p
allow_before n j i p low h = by (nat_eq i j) (nat_lt j i) (other i j low) (less j i low)
  where
    other : (i j : ℕ) → i < j → nat_eq i j ≡ false
    other i j h = grind arith

    less : (j i : ℕ) → i < j → nat_lt j i ≡ false
    less j i h = grind arith

    by : (b d : Bool) → b ≡ false → d ≡ false → ((if b then n else 0) ≤ p) × (p < (if b then n else 0) + (if b then 1 else (if d then n else suc n)))
    by true d e k = absurd (cc)
    by false true e k = absurd (cc)
    by false false e k = (omega arith, omega (arith, h))

-- lists whose last ones differ
pub last_same : (xs ys : List ℕ) (p q : ℕ) → xs ++ p ∷ [] ≡ ys ++ q ∷ [] → length xs ≡ length ys → (xs ≡ ys) × (p ≡ q)
last_same [] [] p q e l = (refl, head_same p q [] [] e)
last_same [] (y ∷ ys) p q e l = absurd (omega (arith, l))
last_same (x ∷ xs) [] p q e l = absurd (omega (arith, l))
last_same (x ∷ xs) (y ∷ ys) p q e l =
    let less : length xs ≡ length ys = omega (arith, l) in
    let r = last_same xs ys p q (tail_same x y (xs ++ p ∷ []) (ys ++ q ∷ []) e) less in
    (ap (λ z. z ∷ xs) (head_same x y (xs ++ p ∷ []) (ys ++ q ∷ []) e) ∙ ap (λ (zs : List ℕ). y ∷ zs) r.0, r.1)

-- the last place is one
pub one_last : (n i k : ℕ) (xs ys : List ℕ) (j : ℕ) → i < k → j < k → xs ≡ ys → AreAllowed n i k xs → AreAllowed n j k ys → i ≡ j
one_last n i zero xs ys j a b e h g = absurd (omega arith)
one_last n i (suc k) xs ys j a b e (before, p, d, allowed, rest) (before', p', d', allowed', rest') =
    let same = last_same before before' p p' (sym d ∙ e ∙ d') (allowed_long n i k before rest ∙ sym (allowed_long n j k before' rest')) in
    elim (where_is i k a) [
      | inl at ↦ elim (where_is j k b) [
        | inl at' ↦ at ∙ sym at'
        | inr low' ↦ absurd (let x = at_last n i p (subst (λ m. IsAllowed n i m p) (sym at) allowed) in let y = behind_last n j k p' low' allowed' in let z = same.1 in omega (arith, x, y, z))
      ]
      | inr low ↦ elim (where_is j k b) [
        | inl at' ↦ absurd (let x = at_last n j p' (subst (λ m. IsAllowed n j m p') (sym at') allowed') in let y = behind_last n i k p low allowed in let z = same.1 in omega (arith, x, y, z))
        | inr low' ↦ one_last n i k before before' j low low' same.0 rest rest'
      ]
    ]

-- each of the positions is at most n, and n is among them
pub allowed_up_to : (n j i : ℕ) (front : List ℕ) → AreAllowed n j i front → Each (λ p. p ≤ n) front
allowed_up_to n j zero front e = subst (Each (λ p. p ≤ n)) (sym e) tt
allowed_up_to n j (suc i) front (before, p, e, allowed, rest) = subst (Each (λ q. q ≤ n)) (sym e) (each_append (λ q. q ≤ n) before (p ∷ []) (allowed_up_to n j i before rest) (up_to n j i p allowed, tt))

pub allowed_stands : (n j i : ℕ) (front : List ℕ) → j < i → AreAllowed n j i front → Has front n
allowed_stands n j zero front low h = absurd (omega arith)
allowed_stands n j (suc i) front low (before, p, e, allowed, rest) = subst (λ (xs : List ℕ). Has xs n) (sym e) (elim (where_is j i low) [
  | inl at ↦ has_right before (p ∷ []) n (inl (at_last n j p (subst (λ m. IsAllowed n j m p) (sym at) allowed)))
  | inr less ↦ has_left before (p ∷ []) n (allowed_stands n j i before less rest)
])

-- a list splits at its end
snoc_of : (xs : List ℕ) (i : ℕ) → length xs ≡ suc i → (before : List ℕ) × (p : ℕ) × (xs ≡ before ++ p ∷ []) × (length before ≡ i)
snoc_of [] i e = absurd (omega arith)
snoc_of (x ∷ []) i e = ([], x, refl, omega arith)
snoc_of (x ∷ y ∷ xs) zero e = absurd (omega arith)
snoc_of (x ∷ y ∷ xs) (suc i) e = let r = snoc_of (y ∷ xs) i (omega arith) in (x ∷ r.0, r.1, ap (λ (zs : List ℕ). x ∷ zs) r.2, ap suc r.3)

all_before : (n j i : ℕ) (xs : List ℕ) → length xs ≡ i → i ≤ j → Each (λ p. p ≤ n) xs → AreAllowed n j i xs
all_before n j zero [] l low e = refl
all_before n j zero (x ∷ xs) l low e = absurd (omega arith)
all_before n j (suc i) xs l low e =
    let s = snoc_of xs i l in
    let parts = each_parts s.0 s.1 (subst (Each (λ p. p ≤ n)) s.2 e) in
    (s.0, s.1, s.2, allow_before n j i s.1 (omega arith) parts.1, all_before n j i s.0 s.3 (omega arith) parts.0)
  where
    each_parts : (xs : List ℕ) (p : ℕ) → Each (λ q. q ≤ n) (xs ++ p ∷ []) → Each (λ q. q ≤ n) xs × (p ≤ n)
    each_parts [] p h = (tt, h.0)
    each_parts (x ∷ xs) p h = let r = each_parts xs p h.1 in ((h.0, r.0), r.1)

-- there is a last place
pub some_last : (n i : ℕ) (xs : List ℕ) → length xs ≡ i → Each (λ p. p ≤ n) xs → Has xs n → (j : ℕ) × (j < i) × AreAllowed n j i xs
some_last n zero [] l e h = absurd h
some_last n zero (x ∷ xs) l e h = absurd (omega arith)
some_last n (suc i) xs l e h =
    let s = snoc_of xs i l in
    let parts = each_parts s.0 s.1 (subst (Each (λ p. p ≤ n)) s.2 e) in
    elim (below_or s.1 parts.1) [
      | inl at ↦ (i, omega arith, (s.0, s.1, s.2, subst (IsAllowed n i i) (sym at) (allow_last n i), all_before n i i s.0 s.3 (omega arith) parts.0))
      | inr low ↦
          let r = some_last n i s.0 s.3 parts.0 (before_it s.0 s.1 low (subst (λ (zs : List ℕ). Has zs n) s.2 h)) in
          (r.0, (let m = r.1 in omega (arith, m)), (s.0, s.1, s.2, allow_behind n r.0 i s.1 r.1 low, r.2))
    ]
  where
    each_parts : (xs : List ℕ) (p : ℕ) → Each (λ q. q ≤ n) (xs ++ p ∷ []) → Each (λ q. q ≤ n) xs × (p ≤ n)
    each_parts [] p h = (tt, h.0)
    each_parts (x ∷ xs) p h = let r = each_parts xs p h.1 in ((h.0, r.0), r.1)

    below_or : (p : ℕ) → p ≤ n → (p ≡ n) ⊎ (p < n)
    below_or p h = grind arith

    before_it : (xs : List ℕ) (p : ℕ) → p < n → Has (xs ++ p ∷ []) n → Has xs n
    before_it xs p low h = elim (has_either xs (p ∷ []) n h) [ inl k ↦ k | inr k ↦ elim k [ inl e ↦ absurd (omega (arith, low, e)) | inr z ↦ absurd z ] ]
