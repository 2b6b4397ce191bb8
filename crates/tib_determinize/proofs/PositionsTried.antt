-- Which positions are wanted at a place.
use Rattle.std.specs.Prelude.{◌≡◌, ◌⊎◌, ℕ, ◌+◌, ◌<◌, ◌≤◌, nat_eq, nat_lt, Bool, true, false, List, [], ◌∷◌, ◌++◌, length, take, Contains, IsPermutation, IsSorted, if◌then◌else◌, refl}
use Rattle.std.proofs.Common.{zero, suc, arith, ap, sym, ◌∙◌, subst, get_or, inl, inr}
use Rattle.std.specs.Ordering.{MatchOrdering, nat_cmp, is_lt}
use Rattle.std.specs.declared.cmp.Ordering.{Ordering}
use Rattle.std.specs.declared.cmp.Ordering.TheVariants.{Less, Equal, Greater}
use Rattle.std.proofs.lemmas.Cmp.{ranked, nat_cmp_total}
use Rattle.std.proofs.lemmas.List.Sorted.{ranks_by, sorted_far, Contains-permutation}
use Rattle.tib_lex.specs.Lists.{Has}
use Rattle.tib_lex.proofs.Members.{has_left, has_right}
use Rattle.tib_grammar.proofs.Members.{at_has, has_at}
use Rattle.tib_determinize.specs.Alive.{AreAscending}
use Rattle.tib_determinize.specs.Tries.{first_at, many_at}

before_or_behind : (i m : ℕ) → (i < m) ⊎ (m ≤ i)
before_or_behind i m = grind arith

same_or_later : (m i : ℕ) → m ≤ i → (m ≡ i) ⊎ (m < i)
same_or_later m i h = grind arith

-- between a number and the first position from it on there is none
pub none_between :
    (ps : List ℕ) (next at bound : ℕ) → AreAscending ps → ((i : ℕ) → i < at → get_or ps i 0 < next) → (at < length ps → bound ≤ get_or ps at 0) →
    (p : ℕ) → next ≤ p → p < bound → Has ps p → ⊥
none_between ps next at bound up before behind p from to h =
    let a = at_has ps p 0 h in
    let low = a.1 in
    let is = a.2 in
    elim (before_or_behind a.0 at) [
      | inl l ↦ (let b = before a.0 l in omega (arith, b, is, from))
      | inr g ↦
          let b = behind (omega (arith, g, low)) in
          elim (same_or_later at a.0 g) [
            | inl e ↦ (let s = ap (λ m. get_or ps m 0) e in omega (arith, b, s, is, to))
            | inr l ↦ (let u = up at a.0 l low in omega (arith, b, u, is, to))
          ]
    ]

-- one more position
pub has_pushed : (old new : List ℕ) (x : ℕ) → new ≡ old ++ x ∷ [] → (p : ℕ) → Has old p → Has new p
has_pushed old new x e p h = subst (λ (xs : List ℕ). Has xs p) (sym e) (has_left old (x ∷ []) p h)

pub last_pushed : (old new : List ℕ) (x : ℕ) → new ≡ old ++ x ∷ [] → Has new x
last_pushed old new x e = subst (λ (xs : List ℕ). Has xs x) (sym e) (has_right old (x ∷ []) x (inl refl))

pub below_pushed : (old new : List ℕ) (x : ℕ) → new ≡ old ++ x ∷ [] → ((p : ℕ) → p < x → Has old p) → (p : ℕ) → p < x + 1 → Has new p
below_pushed old new x e all p low = elim (same_or_later p x (omega (arith, low))) [
  | inl s ↦ subst (Has new) (sym s) (last_pushed old new x e)
  | inr l ↦ has_pushed old new x e p (all p l)
]

-- one more rule
taken_next : {A : Type 0} (xs : List A) (i : ℕ) (x a : A) → i < length xs → x ≡ get_or xs i x → Has (take (suc i) xs) a → Has (take i xs) a ⊎ (x ≡ a)
taken_next [] i x a h e m = absurd (omega (arith, h))
taken_next (y ∷ xs) zero x a h e m = elim m [ inl k ↦ inr (e ∙ k) | inr k ↦ absurd k ]
taken_next (y ∷ xs) (suc i) x a h e m = elim m [
  | inl k ↦ inl (inl k)
  | inr k ↦ elim (taken_next xs i x a (omega (arith, h)) e k) [ inl r ↦ inl (inr r) | inr r ↦ inr r ]
]

pub taken_more : {A : Type 0} (xs : List A) (i : ℕ) (x a : A) → i < length xs → x ≡ get_or xs i x → Has (take (i + 1) xs) a → Has (take i xs) a ⊎ (x ≡ a)
taken_more xs i x a h e m =
    let next : i + 1 ≡ suc i = omega arith in
    taken_next xs i x a h e (subst (λ n. Has (take n xs) a) next m)

-- what was sorted has the same members, and ascends
pub has_sorted : (xs ys : List ℕ) (x : ℕ) → IsPermutation xs ys → Has xs x → Has ys x
has_sorted xs ys x p h =
    let a = at_has xs x x h in
    let c : Contains ys x = Contains-permutation xs ys x p (a.0, a.1, a.2) in
    subst (Has ys) c.2 (has_at ys c.0 x c.1)

not_less : (a b : ℕ) → is_lt (nat_cmp b a) ≡ false → a ≤ b
not_less a b h = by (nat_cmp b a) (ranked b a (nat_cmp b a) refl) h
  where
    by : (o : Ordering) → MatchOrdering o (b < a) (b ≡ a) (a < b) → is_lt o ≡ false → a ≤ b
    by Less r e = absurd (cc)
    by Equal r e = omega (arith, r)
    by Greater r e = omega (arith, r)

pub sorted_ascend : (xs : List ℕ) → IsSorted nat_cmp xs → AreAscending xs
sorted_ascend xs s i m l h = not_less (get_or xs i 0) (get_or xs m 0) (sorted_far (λ x y. is_lt (nat_cmp x y)) (ranks_by nat_cmp_total (λ x. x)) xs s i m 0 (omega (arith, l)) h)

-- no position at a place is above the last
pub ends_up_to : (n j i end : ℕ) → end ≡ first_at n j i + many_at n j i → end ≤ suc n
ends_up_to n j i end e = by (nat_eq i j) (nat_lt j i) e
  where
    by : (b d : Bool) → end ≡ (if b then n else 0) + (if b then 1 else (if d then n else suc n)) → end ≤ suc n
    by true d x = omega (arith, x)
    by false true x = omega (arith, x)
    by false false x = omega (arith, x)
