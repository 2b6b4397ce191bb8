-- The pairs of a reading rule: the variables that are left out, and that all variables are there.
use Rattle.std.specs.Prelude.{◌≡◌, ◌⊎◌, ℕ, ◌+◌, ◌<◌, ◌≤◌, nat_eq, true, false, List, [], ◌∷◌, ◌++◌, length, map, refl}
use Rattle.std.specs.List.{list_any, range_with_len}
use Rattle.std.proofs.Common.{zero, suc, arith, ap, sym, ◌∙◌, subst, inl, inr}
use Rattle.std.proofs.lemmas.List.{map-append}
use Rattle.tib_lex.specs.Lists.{Has, Each, Distinct}
use Rattle.tib_lex.proofs.Booleans.{bool_cases}
use Rattle.tib_lex.proofs.Lists.{each_append}
use Rattle.tib_lex.proofs.Members.{has_left, has_right, has_either}
use Rattle.tib_lex.proofs.Numbers.{nat_eq_cases}
use Rattle.tib_grammar.specs.Sides.{holes_of}
use Rattle.tib_grammar.specs.Range.{AllBelow}
use Rattle.tib_grammar.proofs.Below.{below_append}
use Rattle.tib_grammar.proofs.Sides.{holes_of-over}
use Rattle.tib_transducer.specs.Rules.{variables_of, states_in, variables_in}
use Rattle.tib_transducer.specs.Range.{AreNumbered, IsShaped, IsWithin}
use Rattle.tib_transducer.specs.Classes.{IsLinear}
use Rattle.tib_transducer.specs.declared.Variable.{Variable}
use Rattle.tib_transducer.specs.declared.Pair.{Pair}
use Rattle.tib_transducer.specs.declared.TransducerRule.{TransducerRule}
use Rattle.tib_transducer.proofs.Selecting.{any_has, has_any}
use Rattle.tib_strings.specs.Rules.{pairs_of, states_in as states_on, variables_in as variables_on}
use Rattle.tib_strings.specs.Range.{IsShaped as IsStringShaped, IsWithin as IsStringWithin, IsLinear as IsStringLinear, IsNondeleting}
use Rattle.tib_domain.specs.Reading.{left_out, pairs_from, only_pairs, reading_rule, plain, any_rule}
use Rattle.tib_transducer.proofs.Counting.{each_numbered}

-- a list of pairs alone has these pairs
pub pairs_only : (xs : List (Pair ℕ)) → pairs_of (only_pairs xs) ≡ xs
pairs_only [] = refl
pairs_only (x ∷ xs) = ap (λ (ys : List (Pair ℕ)). x ∷ ys) (pairs_only xs)

-- the state `any`, this many times
abbrev pub anys : ℕ → ℕ → List ℕ
anys any zero = []
anys any (suc n) = any ∷ anys any n

pub states_from : (any : ℕ) (is : List ℕ) → map (λ (x : Pair ℕ). x.state) (pairs_from any is) ≡ anys any (length is)
states_from any [] = refl
states_from any (i ∷ is) = ap (λ (qs : List ℕ). any ∷ qs) (states_from any is)

pub variables_from : (any : ℕ) (is : List ℕ) → map (λ (x : Pair ℕ). x.variable) (pairs_from any is) ≡ is
variables_from any [] = refl
variables_from any (i ∷ is) = ap (λ (js : List ℕ). i ∷ js) (variables_from any is)

-- what a rule leaves out
abbrev pub rest_of : TransducerRule ℕ → List ℕ
rest_of r = left_out (variables_in r.right) (variables_of r.left)

-- the states and the variables of a reading rule
pub reading_states : (any : ℕ) (r : TransducerRule ℕ) → states_on (reading_rule any r).right ≡ states_in r.right ++ anys any (length (rest_of r))
reading_states any r =
    ap (map (λ (x : Pair ℕ). x.state)) (pairs_only (holes_of r.right ++ pairs_from any (rest_of r)))
    ∙ map-append (λ (x : Pair ℕ). x.state) (holes_of r.right) (pairs_from any (rest_of r))
    ∙ ap (λ (qs : List ℕ). states_in r.right ++ qs) (states_from any (rest_of r))

pub reading_variables : (any : ℕ) (r : TransducerRule ℕ) → variables_on (reading_rule any r).right ≡ variables_in r.right ++ rest_of r
reading_variables any r =
    ap (map (λ (x : Pair ℕ). x.variable)) (pairs_only (holes_of r.right ++ pairs_from any (rest_of r)))
    ∙ map-append (λ (x : Pair ℕ). x.variable) (holes_of r.right) (pairs_from any (rest_of r))
    ∙ ap (λ (is : List ℕ). variables_in r.right ++ is) (variables_from any (rest_of r))

-- and those of a rule of `any`
pub any_states : (any : ℕ) (x : ℕ × ℕ) → states_on (any_rule any x).right ≡ anys any (length (range_with_len 0 x.1))
any_states any x = ap (map (λ (y : Pair ℕ). y.state)) (pairs_only (pairs_from any (range_with_len 0 x.1))) ∙ states_from any (range_with_len 0 x.1)

pub any_variables : (any : ℕ) (x : ℕ × ℕ) → variables_on (any_rule any x).right ≡ range_with_len 0 x.1
any_variables any x = ap (map (λ (y : Pair ℕ). y.variable)) (pairs_only (pairs_from any (range_with_len 0 x.1))) ∙ variables_from any (range_with_len 0 x.1)

-- each variable is in use or left out
either_way : (used : List ℕ) (n : ℕ) (xs : List Variable) → AreNumbered n xs → (i : ℕ) → n ≤ i → i < n + length xs → Has used i ⊎ Has (left_out used xs) i
either_way used n [] a i low high = absurd (omega arith)
either_way used n (x ∷ xs) a i low high = elim (bool_cases (list_any (nat_eq x.number) used)) [
  | inl e ↦ rw e (elim (nat_eq_cases n i) [
    | inl k ↦ inl (subst (Has used) (a.0 ∙ k.0) (any_has x.number used e))
    | inr k ↦ either_way used (suc n) xs a.1 i (omega (arith, k.0)) (omega arith)
  ])
  | inr e ↦ rw e (elim (nat_eq_cases n i) [
    | inl k ↦ inr (inl (a.0 ∙ k.0))
    | inr k ↦ elim (either_way used (suc n) xs a.1 i (omega (arith, k.0)) (omega arith)) [ inl u ↦ inl u | inr u ↦ inr (inr u) ]
  ])
]

pub all_there : (r : TransducerRule ℕ) → AreNumbered 0 (variables_of r.left) → (i : ℕ) → i < length (variables_of r.left) → Has (variables_in r.right ++ rest_of r) i
all_there r numbered i b = elim (either_way (variables_in r.right) 0 (variables_of r.left) numbered i (omega arith) (omega arith)) [
  | inl h ↦ has_left (variables_in r.right) (rest_of r) i h
  | inr h ↦ has_right (variables_in r.right) (rest_of r) i h
]

-- those that are left out are variables, and not in use
left_low : (used : List ℕ) (n : ℕ) (xs : List Variable) → AreNumbered n xs → (m : ℕ) → n + length xs ≤ m → Each (λ i. i < m) (left_out used xs)
left_low used n [] a m h = tt
left_low used n (x ∷ xs) a m h = elim (bool_cases (list_any (nat_eq x.number) used)) [
  | inl e ↦ rw e (left_low used (suc n) xs a.1 m (omega arith))
  | inr e ↦ rw e (omega (arith, a.0), left_low used (suc n) xs a.1 m (omega arith))
]

pub rest_low : (r : TransducerRule ℕ) → AreNumbered 0 (variables_of r.left) → Each (λ i. i < length (variables_of r.left)) (rest_of r)
rest_low r numbered = left_low (variables_in r.right) 0 (variables_of r.left) numbered (length (variables_of r.left)) (omega arith)

left_high : (used : List ℕ) (n : ℕ) (xs : List Variable) → AreNumbered n xs → (i : ℕ) → Has (left_out used xs) i → n ≤ i
left_high used n [] a i h = absurd h
left_high used n (x ∷ xs) a i h = elim (bool_cases (list_any (nat_eq x.number) used)) [
  | inl e ↦ let later = left_high used (suc n) xs a.1 i (rw e at h) in omega (arith, later)
  | inr e ↦ elim (rw e at h) [
    | inl k ↦ omega (arith, k, a.0)
    | inr k ↦ let later = left_high used (suc n) xs a.1 i k in omega (arith, later)
  ]
]

left_apart : (used : List ℕ) (xs : List Variable) (i : ℕ) → Has (left_out used xs) i → Has used i → ⊥
left_apart used [] i h u = h
left_apart used (x ∷ xs) i h u = elim (bool_cases (list_any (nat_eq x.number) used)) [
  | inl e ↦ left_apart used xs i (rw e at h) u
  | inr e ↦ elim (rw e at h) [
    | inl k ↦ let bad : true ≡ false = sym (has_any x.number used (subst (Has used) (sym k) u)) ∙ e in absurd (cc)
    | inr k ↦ left_apart used xs i k u
  ]
]

left_once : (used : List ℕ) (n : ℕ) (xs : List Variable) → AreNumbered n xs → Distinct (left_out used xs)
left_once used n [] a = tt
left_once used n (x ∷ xs) a = elim (bool_cases (list_any (nat_eq x.number) used)) [
  | inl e ↦ rw e (left_once used (suc n) xs a.1)
  | inr e ↦ rw e (
    λ h. let high = left_high used (suc n) xs a.1 x.number h in omega (arith, high, a.0),
    left_once used (suc n) xs a.1,
  )
]

distinct_both : (xs ys : List ℕ) → Distinct xs → Distinct ys → ((i : ℕ) → Has xs i → Has ys i → ⊥) → Distinct (xs ++ ys)
distinct_both [] ys d e apart = e
distinct_both (x ∷ xs) ys d e apart = (
  λ h. elim (has_either xs ys x h) [ inl k ↦ d.0 k | inr k ↦ apart x (inl refl) k ],
  distinct_both xs ys d.1 e (λ i h k. apart i (inr h) k),
)

-- the numbers of a range
range_each : (n many m : ℕ) → n + many ≤ m → Each (λ i. i < m) (range_with_len n many)
range_each n zero m h = tt
range_each n (suc many) m h = (omega arith, range_each (n + 1) many m (omega arith))

range_high : (n many i : ℕ) → Has (range_with_len n many) i → n ≤ i
range_high n zero i h = absurd h
range_high n (suc many) i h = elim h [ inl e ↦ omega (arith, e) | inr k ↦ let later = range_high (n + 1) many i k in omega (arith, later) ]

range_once : (n many : ℕ) → Distinct (range_with_len n many)
range_once n zero = tt
range_once n (suc many) = (λ h. let high = range_high (n + 1) many n h in omega (arith, high), range_once (n + 1) many)

pub range_has : (n many i : ℕ) → n ≤ i → i < n + many → Has (range_with_len n many) i
range_has n zero i low high = absurd (omega arith)
range_has n (suc many) i low high = elim (nat_eq_cases n i) [
  | inl e ↦ inl e.0
  | inr e ↦ inr (range_has (n + 1) many i (omega (arith, e.0)) (omega arith))
]

plain_numbered : (n many : ℕ) → AreNumbered n (map plain (range_with_len n many))
plain_numbered n zero = tt
plain_numbered n (suc many) = let next : n + 1 ≡ suc n = omega arith in (refl, subst (λ (m : ℕ). AreNumbered m (map plain (range_with_len (n + 1) many))) next (plain_numbered (n + 1) many))

pub plain_long : (n many : ℕ) → length (map plain (range_with_len n many)) ≡ many
plain_long n zero = refl
plain_long n (suc many) = ap suc (plain_long (n + 1) many)

pub range_long : (n many : ℕ) → length (range_with_len n many) ≡ many
range_long n zero = refl
range_long n (suc many) = ap suc (range_long (n + 1) many)

below_anys : (m any n : ℕ) → any < m → AllBelow m (anys any n)
below_anys m any zero h = tt
below_anys m any (suc n) h = (h, below_anys m any n h)

below_weaker : (n m : ℕ) → n ≤ m → (qs : List ℕ) → AllBelow n qs → AllBelow m qs
below_weaker n m h [] b = tt
below_weaker n m h (q ∷ qs) b = (omega (arith, b.0), below_weaker n m h qs b.1)

module _ (any : ℕ) where
  -- the shape and the classes of reading rules
  pub reading_shaped : (r : TransducerRule ℕ) → IsShaped r → IsStringShaped (reading_rule any r)
  reading_shaped r s = record {
    begins = s.begins;
    numbered = s.numbered;
    known = subst (Each (λ i. i < length (variables_of r.left))) (sym (reading_variables any r)) (each_append (λ i. i < length (variables_of r.left)) (variables_in r.right) (rest_of r) s.known (rest_low r s.numbered));
  }

  pub reading_within : (r : TransducerRule ℕ) → IsWithin any r → IsStringWithin (any + 1) (reading_rule any r)
  reading_within r w = (
    omega (arith, w.0),
    subst (AllBelow (any + 1)) (sym (reading_states any r))
        (below_append (any + 1) (states_in r.right) (anys any (length (rest_of r))) (below_weaker any (any + 1) (omega arith) (states_in r.right) w.1) (below_anys (any + 1) any (length (rest_of r)) (omega arith))),
  )

  pub reading_linear : (r : TransducerRule ℕ) → IsShaped r → IsLinear r → IsStringLinear (reading_rule any r)
  reading_linear r s l =
      subst Distinct (sym (reading_variables any r))
      (distinct_both (variables_in r.right) (rest_of r) l (left_once (variables_in r.right) 0 (variables_of r.left) s.numbered) (λ i u h. left_apart (variables_in r.right) (variables_of r.left) i h u))

  pub reading_nondeleting : (r : TransducerRule ℕ) → IsShaped r → IsNondeleting (reading_rule any r)
  reading_nondeleting r s =
      subst (λ (vs : List ℕ). Each (λ x. Has vs x.number) (variables_of r.left)) (sym (reading_variables any r))
      (each_numbered (variables_in r.right ++ rest_of r) 0 (variables_of r.left) s.numbered (λ i low high. all_there r s.numbered i (omega arith)))

  -- and those of the rules of `any`
  any_left : (x : ℕ × ℕ) → variables_of (any_rule any x).left ≡ map plain (range_with_len 0 x.1)
  any_left x = holes_of-over x.0 (map plain (range_with_len 0 x.1))

  pub any_shaped : (x : ℕ × ℕ) → IsStringShaped (any_rule any x)
  any_shaped x = record {
    begins = record { root = x.0; is_root = refl };
    numbered = subst (AreNumbered 0) (sym (any_left x)) (plain_numbered 0 x.1);
    known = subst (Each (λ i. i < length (variables_of (any_rule any x).left))) (sym (any_variables any x))
        (range_each 0 x.1 (length (variables_of (any_rule any x).left)) (omega (arith, ap length (any_left x), plain_long 0 x.1)));
  }

  pub any_within : (x : ℕ × ℕ) → IsStringWithin (any + 1) (any_rule any x)
  any_within x = (omega arith, subst (AllBelow (any + 1)) (sym (any_states any x)) (below_anys (any + 1) any (length (range_with_len 0 x.1)) (omega arith)))

  pub any_linear : (x : ℕ × ℕ) → IsStringLinear (any_rule any x)
  any_linear x = subst Distinct (sym (any_variables any x)) (range_once 0 x.1)

  pub any_nondeleting : (x : ℕ × ℕ) → IsNondeleting (any_rule any x)
  any_nondeleting x =
      let long : length (variables_of (any_rule any x).left) ≡ x.1 = ap length (any_left x) ∙ plain_long 0 x.1 in
      subst (λ (vs : List ℕ). Each (λ y. Has vs y.number) (variables_of (any_rule any x).left)) (sym (any_variables any x))
      (each_numbered (range_with_len 0 x.1) 0 (variables_of (any_rule any x).left) (any_shaped x).numbered (λ i low high. range_has 0 x.1 i low (omega (arith, long))))
