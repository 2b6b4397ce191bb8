-- Of costs in order the first of each state is its least.
use Rattle.std.specs.Prelude.{◌≡◌, ◌⊎◌, ℕ, ◌<◌, ◌≤◌, nat_eq, nat_lt, Bool, true, false, List, [], ◌∷◌, ◌++◌, length, drop, Contains, IsPermutation, IsSorted, Option, None, Some, if◌then◌else◌, refl}
use Rattle.std.specs.Option.{option_eq}
use Rattle.std.proofs.Common.{zero, suc, arith, ap, sym, ◌∙◌, subst, get_or, inl, inr, append_assoc, append-nil}
use Rattle.std.specs.Ordering.{MatchOrdering, nat_cmp, ordering_then, is_lt}
use Rattle.std.specs.declared.cmp.Ordering.{Ordering}
use Rattle.std.specs.declared.cmp.Ordering.TheVariants.{Less, Equal, Greater}
use Rattle.std.proofs.lemmas.Cmp.{ranked}
use Rattle.std.proofs.lemmas.List.Sorted.{ranks_by, sorted_far, Contains-permutation, IsPermutation-sym}
use Rattle.tib_lex.specs.Lists.{Has, Each, Ascends, Along}
use Rattle.tib_lex.specs.PairOrder.{pair_cmp}
use Rattle.tib_lex.proofs.Numbers.{nat_eq_cases}
use Rattle.tib_lex.proofs.Places.{drop_whole}
use Rattle.tib_lex.proofs.PairOrder.{pair_total}
use Rattle.tib_lex.proofs.Lists.{Ascends-from}
use Rattle.tib_grammar.proofs.Members.{each_has, each_of, has_at, at_has}
use Rattle.tib_determinize.specs.Vectors.{Rises}
use Rattle.tib_determinize.specs.Settling.{firsts, lesser_with, least_from, IsLeastCost, AreLeastCosts}
use Rattle.tib_determinize.specs.ListLemmas.{each_map}
use Rattle.tib_lex.proofs.Members.{has_permuted}

-- x may be before y: its state is lesser, or the same at no greater cost
abbrev IsInTurn : ℕ × ℕ → ℕ × ℕ → Type 0
IsInTurn x y = (x.0 < y.0) ⊎ ((x.0 ≡ y.0) × (x.1 ≤ y.1))

in_turn : (x y : ℕ × ℕ) → is_lt (pair_cmp y x) ≡ false → IsInTurn x y
in_turn x y h = by (nat_cmp y.0 x.0) (nat_cmp y.1 x.1) (ranked y.0 x.0 (nat_cmp y.0 x.0) refl) (ranked y.1 x.1 (nat_cmp y.1 x.1) refl) h
  where
    by :
        (a b : Ordering) → MatchOrdering a (y.0 < x.0) (y.0 ≡ x.0) (x.0 < y.0) → MatchOrdering b (y.1 < x.1) (y.1 ≡ x.1) (x.1 < y.1) → is_lt (ordering_then a b) ≡ false →
        IsInTurn x y
    by Less b r s e = absurd (cc)
    by Equal Less r s e = absurd (cc)
    by Equal Equal r s e = inr (sym r, omega (arith, s))
    by Equal Greater r s e = inr (sym r, omega (arith, s))
    by Greater b r s e = inl r

all_in_turn : (xs : List (ℕ × ℕ)) → IsSorted pair_cmp xs → Ascends IsInTurn xs
all_in_turn xs s =
    Ascends-from IsInTurn xs (0, 0)
    (λ i j h k. in_turn (get_or xs i (0, 0)) (get_or xs j (0, 0)) (sorted_far (λ x y. is_lt (pair_cmp x y)) (ranks_by pair_total (λ x. x)) xs s i j (0, 0) (omega arith) k))

-- nothing is left of an iterator of no length
pub none_left : (xs : List (ℕ × ℕ)) → length xs ≡ 0 → xs ≡ []
none_left [] e = refl
none_left (x ∷ xs) e = absurd (omega arith)

-- the state before is none, or not above
abbrev IsFrom : Option ℕ → ℕ → Type 0
IsFrom None q = Unit {0}
IsFrom (Some p) q = p ≤ q

abbrev IsPast : Option ℕ → ℕ → Type 0
IsPast None q = Unit {0}
IsPast (Some p) q = p < q

record AreFirsts (o : Option ℕ) (xs ks : List (ℕ × ℕ)) : Type 0 where
  rises : Rises ks
  past : Each (λ k. IsPast o k.0) ks
  sound : (x : ℕ × ℕ) → Has ks x → Has xs x
  whole : (x : ℕ × ℕ) → Has xs x → (o ≡ Some x.0) ⊎ ((u : ℕ) × Has {A = ℕ × ℕ} ks (x.0, u) × (u ≤ x.1))

some_same : (p q : ℕ) → Some p ≡ Some q → p ≡ q
some_same p q e = cc

test_of : (o : Option ℕ) (q : ℕ) → ((o ≡ Some q) × (option_eq nat_eq o (Some q) ≡ true)) ⊎ ((o ≡ Some q → ⊥) × (option_eq nat_eq o (Some q) ≡ false))
test_of None q = inr (λ e. cc, refl)
test_of (Some p) q = elim (nat_eq_cases p q) [ inl h ↦ inl (ap Some h.0, h.1) | inr h ↦ inr (λ e. h.0 (some_same p q e), h.1) ]

from_past : (o : Option ℕ) (q : ℕ) → IsFrom o q → (o ≡ Some q → ⊥) → IsPast o q
from_past None q f n = tt
from_past (Some p) q f n = by (lower p q f)
  where
    lower : (p q : ℕ) → p ≤ q → (p < q) ⊎ (p ≡ q)
    lower p q h = grind arith

    by : (p < q) ⊎ (p ≡ q) → p < q
    by (inl h) = h
    by (inr e) = absurd (n (ap Some e))

past_more : (o : Option ℕ) (p q : ℕ) → IsPast o p → p < q → IsPast o q
past_more None p q h l = tt
past_more (Some n) p q h l = omega (arith, h, l)

turn_from : (x y : ℕ × ℕ) → IsInTurn x y → x.0 ≤ y.0
turn_from x y (inl h) = omega (arith, h)
turn_from x y (inr h) = omega (arith, h.0)

are_firsts : (o : Option ℕ) (xs : List (ℕ × ℕ)) → Ascends IsInTurn xs → Each (λ x. IsFrom o x.0) xs → AreFirsts o xs (firsts o xs)
are_firsts o [] a f = record { rises = tt; past = tt; sound = λ x h. h; whole = λ x h. absurd h }
are_firsts o (x ∷ xs) a f = elim (test_of o x.0) [
  | inl t ↦
      let r = are_firsts o xs a.1 f.1 in
      rw t.1 (record {
        rises = r.rises;
        past = r.past;
        sound = λ y h. inr (r.sound y h);
        whole = λ y h. elim h [ inl e ↦ inl (t.0 ∙ ap (λ (z : ℕ × ℕ). Some z.0) e) | inr k ↦ r.whole y k ];
      })
  | inr t ↦
      let r = are_firsts (Some x.0) xs a.1 (each_map (IsInTurn x) (λ y. x.0 ≤ y.0) (λ y i. turn_from x y i) xs a.0) in
      rw t.1 (record {
        rises = (r.past, r.rises);
        past = (from_past o x.0 f.0 t.0, each_map (λ k. x.0 < k.0) (λ k. IsPast o k.0) (λ k l. past_more o x.0 k.0 (from_past o x.0 f.0 t.0) l) (firsts (Some x.0) xs) r.past);
        sound = λ y h. elim h [ inl e ↦ inl e | inr k ↦ inr (r.sound y k) ];
        whole = λ y h. inr (elim h [
          | inl e ↦ (x.1, inl (ap (λ (z : ℕ × ℕ). (z.0, x.1)) e), omega (arith, ap (λ (z : ℕ × ℕ). z.1) e))
          | inr k ↦ elim (r.whole y k) [
            | inl e ↦ (x.1, inl (ap (λ q. (q, x.1)) (some_same x.0 y.0 e)), no_dearer y (some_same x.0 y.0 e) (each_has (IsInTurn x) xs y a.0 k))
            | inr w ↦ (w.0, inr w.1, w.2)
          ]
        ]);
      })
]
  where
    no_dearer : (y : ℕ × ℕ) → x.0 ≡ y.0 → IsInTurn x y → x.1 ≤ y.1
    no_dearer y e (inl h) = absurd (omega (arith, e, h))
    no_dearer y e (inr h) = h.1

all_from_none : (xs : List (ℕ × ℕ)) → Each (λ x. IsFrom None x.0) xs
all_from_none [] = tt
all_from_none (x ∷ xs) = (tt, all_from_none xs)

-- the first of each state among the sorted costs are the least costs
pub least_costs : (costs sorted kept : List (ℕ × ℕ)) → IsPermutation costs sorted → IsSorted pair_cmp sorted → kept ≡ firsts None sorted → AreLeastCosts costs kept
least_costs costs sorted kept permuted s e =
    let r = are_firsts None sorted (all_in_turn sorted s) (all_from_none sorted) in
    subst (AreLeastCosts costs) (sym e) (record {
      rises = r.rises;
      sound = λ x h. has_permuted sorted costs x (IsPermutation-sym costs sorted permuted) (r.sound x h);
      whole = λ x h. elim (r.whole x (has_permuted costs sorted x permuted h)) [ inl n ↦ absurd (cc) | inr w ↦ w ];
    })

-- the least cost by a pass over them
record IsLeastFrom (o : Option ℕ) (xs : List (ℕ × ℕ)) (m : ℕ) : Type 0 where
  from : (o ≡ Some m) ⊎ ((q : ℕ) × Has {A = ℕ × ℕ} xs (q, m))
  below : (p : ℕ) → o ≡ Some p → m ≤ p
  least : Each (λ x. m ≤ x.1) xs

lesser_from : (o : Option ℕ) (c : ℕ) → (lesser_with o c ≡ c) ⊎ (o ≡ Some (lesser_with o c))
lesser_from None c = inl refl
lesser_from (Some a) c = by (nat_lt c a)
  where
    by : (b : Bool) → ((if b then c else a) ≡ c) ⊎ (Some a ≡ Some (if b then c else a))
    by true = inl refl
    by false = inr refl

lesser_at_most : (o : Option ℕ) (c : ℕ) → lesser_with o c ≤ c
lesser_at_most None c = omega arith
lesser_at_most (Some a) c = grind arith

lesser_before : (o : Option ℕ) (c p : ℕ) → o ≡ Some p → lesser_with o c ≤ p
lesser_before None c p e = absurd (cc)
lesser_before (Some a) c p e = let same : a ≡ p = some_same a p e in by same
  where
    by : a ≡ p → lesser_with (Some a) c ≤ p
    by same = grind (arith, same)

is_least_from : (o : Option ℕ) (xs : List (ℕ × ℕ)) (m : ℕ) → least_from o xs ≡ Some m → IsLeastFrom o xs m
is_least_from o [] m e = record { from = inl e; below = λ p k. (let same = some_same m p (sym e ∙ k) in omega (arith, same)); least = tt }
is_least_from o (x ∷ xs) m e =
    let r = is_least_from (Some (lesser_with o x.1)) xs m e in
    let low : m ≤ lesser_with o x.1 = r.below (lesser_with o x.1) refl in
    record {
      from = elim r.from [
        | inl k ↦
            let same : lesser_with o x.1 ≡ m = some_same (lesser_with o x.1) m k in
            elim (lesser_from o x.1) [ inl i ↦ inr (x.0, inl (ap (λ c. (x.0, c)) (sym i ∙ same))) | inr i ↦ inl (i ∙ ap Some same) ]
        | inr k ↦ inr (k.0, inr k.1)
      ];
      below = λ p k. omega (arith, low, lesser_before o x.1 p k);
      least = (omega (arith, low, lesser_at_most o x.1), r.least);
    }

is_none_from : (o : Option ℕ) (xs : List (ℕ × ℕ)) → least_from o xs ≡ None → xs ≡ []
is_none_from o [] e = refl
is_none_from o (x ∷ xs) e = absurd (some_left (lesser_with o x.1) xs e)
  where
    some_left : (a : ℕ) (ys : List (ℕ × ℕ)) → least_from (Some a) ys ≡ None → ⊥
    some_left a [] k = cc
    some_left a (y ∷ ys) k = some_left (lesser_with (Some a) y.1) ys k

-- a pass over the costs gives the least
pub least_is : (xs : List (ℕ × ℕ)) (o : Option ℕ) → o ≡ least_from None xs → IsLeastCost xs o
least_is xs None e = is_none_from None xs (sym e)
least_is xs (Some m) e = let r = is_least_from None xs m (sym e) in (elim r.from [ inl k ↦ absurd (cc) | inr k ↦ k ], r.least)

-- a list from a place on
pub drop_at : {A : Type 0} (xs : List A) (i : ℕ) (d : A) → i < length xs → drop i xs ≡ get_or xs i d ∷ drop (suc i) xs
drop_at [] i d h = absurd (omega arith)
drop_at (x ∷ xs) zero d h = refl
drop_at (x ∷ xs) (suc i) d h = drop_at xs i d (omega arith)

-- one more of two lists side by side
pub along_step :
    {A B : Type 0} (R : A → B → Type 0) (xs : List A) (i : ℕ) (d : A) (ys : List B) (y : B) → i < length xs → R (get_or xs i d) y →
    ((rest : List B) → Along R (drop i xs) rest → Along R xs (ys ++ rest)) → (rest : List B) → Along R (drop (suc i) xs) rest → Along R xs ((ys ++ y ∷ []) ++ rest)
along_step R xs i d ys y h r f rest a =
    subst (Along R xs) (sym (append_assoc ys (y ∷ []) rest)) (f (y ∷ rest) (subst (λ zs. Along R zs (y ∷ rest)) (sym (drop_at xs i d h)) (r, a)))

-- and none left
pub along_done : {A B : Type 0} (R : A → B → Type 0) (xs : List A) (i : ℕ) (ys : List B) → length xs ≤ i → ((rest : List B) → Along R (drop i xs) rest → Along R xs (ys ++ rest)) → Along R xs ys
along_done R xs i ys h f = subst (Along R xs) (append-nil ys) (f [] (subst (λ zs. Along R zs []) (sym (drop_whole xs i h)) tt))

-- the least costs are none of them below the least
pub none_below : (costs kept : List (ℕ × ℕ)) (m : ℕ) → IsLeastCost costs (Some m) → AreLeastCosts costs kept → Each (λ x. m ≤ x.1) kept
none_below costs kept m l k = each_of (λ (x : ℕ × ℕ). m ≤ x.1) kept (λ x h. each_has (λ (y : ℕ × ℕ). m ≤ y.1) costs x l.1 (k.sound x h))
