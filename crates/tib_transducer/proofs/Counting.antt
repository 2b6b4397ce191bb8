-- Counting the places at which a number occurs.
use Rattle.std.proofs.Common.{◌≡◌, ℕ, ◌+◌, ◌-◌, ◌<◌, ◌≤◌, ◌⊎◌, List, [], ◌∷◌, length, get_or, set, take, refl, sym, ap, subst, arith, true, false, nat_eq, inl, inr, suc, zero, get_or-set_same, get_or-set_other, ◌≢◌, ◌∙◌}
use Rattle.std.proofs.lemmas.Bool.Decides.{nat_tests}
use Rattle.std.proofs.lemmas.List.{get_or-take, length-take}
use Rattle.tib_lex.specs.Lists.{Has, Each, Distinct, occurrences}
use Rattle.tib_transducer.specs.Range.{AreNumbered}
use Rattle.tib_transducer.specs.declared.Variable.{Variable}
use Rattle.std.specs.Prelude.{◌++◌}
use Rattle.tib_transducer.specs.Rules.{no_variable}
use Rattle.tib_grammar.proofs.Members.{each_has, has_at}
use Rattle.tib_tree.specs.Trees.{Trees, none, tree, count}
use Rattle.tib_transducer.specs.Run.{AreBound}

nat_eq_cases : (n m : ℕ) → ((n ≡ m) × (nat_eq n m ≡ true)) ⊎ ((n ≡ m → ⊥) × (nat_eq n m ≡ false))
nat_eq_cases n m = grind (arith, nat_tests)

-- one more number
pub one_same : (n m : ℕ) (ms : List ℕ) → n ≡ m → occurrences n (m ∷ ms) ≡ suc (occurrences n ms)
one_same n m ms e = elim (nat_eq_cases n m) [
  | inl k ↦ rw k.1 (omega arith)
  | inr k ↦ absurd (k.0 e)
]

pub one_other : (n m : ℕ) (ms : List ℕ) → (n ≡ m → ⊥) → occurrences n (m ∷ ms) ≡ occurrences n ms
one_other n m ms e = elim (nat_eq_cases n m) [
  | inl k ↦ absurd (e k.0)
  | inr k ↦ rw k.1 (omega arith)
]

-- a number is in a list exactly where it occurs at least once
pub has_occurs : (n : ℕ) (ms : List ℕ) → Has ms n → 1 ≤ occurrences n ms
has_occurs n [] h = absurd h
has_occurs n (m ∷ ms) h = elim (nat_eq_cases n m) [
  | inl k ↦ omega (arith, one_same n m ms k.0)
  | inr k ↦ elim h [
    | inl e ↦ absurd (k.0 (sym e))
    | inr later ↦ omega (arith, one_other n m ms k.0, has_occurs n ms later)
  ]
]

pub occurs_has : (n : ℕ) (ms : List ℕ) → 1 ≤ occurrences n ms → Has ms n
occurs_has n [] h = absurd (omega arith)
occurs_has n (m ∷ ms) h = elim (nat_eq_cases n m) [
  | inl k ↦ inl (sym k.0)
  | inr k ↦ inr (occurs_has n ms (omega (arith, one_other n m ms k.0)))
]

-- the numbers are distinct where none has more than one occurrence
pub distinct_from : (ms : List ℕ) → ((n : ℕ) → occurrences n ms ≤ 1) → Distinct ms
distinct_from [] h = tt
distinct_from (m ∷ ms) h = (
  λ stands. absurd (omega (arith, h m, one_same m m ms refl, has_occurs m ms stands)),
  distinct_from ms (λ n. elim (nat_eq_cases n m) [
    | inl k ↦ omega (arith, h n, one_same n m ms k.0)
    | inr k ↦ omega (arith, h n, one_other n m ms k.0)
  ]),
)

pub distinct_once : (ms : List ℕ) → Distinct ms → (n : ℕ) → occurrences n ms ≤ 1
distinct_once [] d n = omega arith
distinct_once (m ∷ ms) d n = elim (nat_eq_cases n m) [
  | inl k ↦ elim (zero_or (occurrences n ms)) [
    | inl e ↦ omega (arith, one_same n m ms k.0, e)
    | inr e ↦ absurd (d.0 (subst (Has ms) k.0 (occurs_has n ms e)))
  ]
  | inr k ↦ omega (arith, one_other n m ms k.0, distinct_once ms d.1 n)
]
  where
    zero_or : (n : ℕ) → (n ≡ 0) ⊎ (1 ≤ n)
    zero_or zero = inl refl
    zero_or (suc n) = inr (omega arith)

-- a number above all others does not occur
pub none_above : (n m : ℕ) (ms : List ℕ) → Each (λ i. i < m) ms → m ≤ n → occurrences n ms ≡ 0
none_above n m [] a h = refl
none_above n m (x ∷ ms) a h =
    let apart : n ≡ x → ⊥ = λ e. omega (arith, a.0, e) in
    omega (arith, one_other n x ms apart, none_above n m ms a.1 h)

-- each of a window of counts is of its number, with what still follows
abbrev pub AreCounted : ℕ → List ℕ → List ℕ → List ℕ → Type 0
AreCounted first uses rest all = (k : ℕ) → k < 64 → get_or uses k 0 + occurrences (first + k) rest ≡ occurrences (first + k) all

-- one more number within the window, and outside of it
pub counted_in :
    (first variable : ℕ) (uses rest all : List ℕ) → length uses ≡ 64 → first ≤ variable → variable - first < 64 → AreCounted first uses (variable ∷ rest) all →
    AreCounted first (set uses (variable - first) (get_or uses (variable - first) 0 + 1)) rest all
counted_in first variable uses rest all long low near h k below = elim (nat_eq_cases (first + k) variable) [
  | inl same ↦
      let e : variable - first ≡ k = omega (arith, same.0) in
      let lt : k < length uses = omega arith in
      let now : get_or (set uses k (get_or uses k 0 + 1)) k 0 ≡ get_or uses k 0 + 1 = get_or-set_same uses k (get_or uses k 0 + 1) 0 lt in
      subst (λ j. get_or (set uses j (get_or uses j 0 + 1)) k 0 + occurrences (first + k) rest ≡ occurrences (first + k) all) (sym e)
      (omega (arith, now, h k below, one_same (first + k) variable rest same.0))
  | inr other ↦
      let ne : k ≢ variable - first = λ e. other.0 (omega (arith, e)) in
      let still : get_or (set uses (variable - first) (get_or uses (variable - first) 0 + 1)) k 0 ≡ get_or uses k 0 = get_or-set_other uses (variable - first) k (get_or uses (variable - first) 0 + 1) 0 ne in
      omega (arith, still, h k below, one_other (first + k) variable rest other.0)
]

pub counted_out :
    (first variable : ℕ) (uses rest all : List ℕ) → (first ≤ variable → variable - first < 64 → ⊥) → AreCounted first uses (variable ∷ rest) all → AreCounted first uses rest all
counted_out first variable uses rest all far h k below =
    let apart : first + k ≡ variable → ⊥ = λ e. far (omega (arith, e)) (omega (arith, e)) in
    omega (arith, h k below, one_other (first + k) variable rest apart)

-- no count is above that of the items that were seen
pub low_in :
    (i place : ℕ) (uses : List ℕ) → length uses ≡ 64 → place < 64 → ((k : ℕ) → k < 64 → get_or uses k 0 ≤ i) →
    (k : ℕ) → k < 64 → get_or (set uses place (get_or uses place 0 + 1)) k 0 ≤ i + 1
low_in i place uses long near h k below = elim (nat_eq_cases k place) [
  | inl same ↦
      let lt : place < length uses = omega arith in
      let now : get_or (set uses place (get_or uses place 0 + 1)) place 0 ≡ get_or uses place 0 + 1 = get_or-set_same uses place (get_or uses place 0 + 1) 0 lt in
      subst (λ j. get_or (set uses place (get_or uses place 0 + 1)) j 0 ≤ i + 1) (sym same.0) (omega (arith, now, h place near))
  | inr other ↦
      let ne : k ≢ place = other.0 in
      let still : get_or (set uses place (get_or uses place 0 + 1)) k 0 ≡ get_or uses k 0 = get_or-set_other uses place k (get_or uses place 0 + 1) 0 ne in
      omega (arith, still, h k below)
]

-- what holds of each variable, where they are numbered from n on
pub each_numbered : (vs : List ℕ) (n : ℕ) (xs : List Variable) → AreNumbered n xs → ((i : ℕ) → n ≤ i → i < n + length xs → Has vs i) → Each (λ x. Has vs x.number) xs
each_numbered vs n [] a h = tt
each_numbered vs n (x ∷ xs) a h = (
  subst (Has vs) (sym a.0) (h n (omega arith) (omega arith)),
  each_numbered vs (suc n) xs a.1 (λ i low high. h i (omega arith) (omega arith)),
)

pub numbered_each : (vs : List ℕ) (n : ℕ) (xs : List Variable) → AreNumbered n xs → Each (λ x. Has vs x.number) xs → (i : ℕ) → n ≤ i → i < n + length xs → Has vs i
numbered_each vs n [] a h i low high = absurd (omega arith)
numbered_each vs n (x ∷ xs) a h i low high = elim (nat_eq_cases n i) [
  | inl k ↦ subst (Has vs) (a.0 ∙ k.0) h.0
  | inr k ↦ numbered_each vs (suc n) xs a.1 h.1 i (omega (arith, k.0)) (omega arith)
]

-- The last of some variables were looked at, and then the window before them: what holds of each
-- count in the window, by the test P, holds of each variable from its first one on.
pub window_more :
    (P : ℕ → Type 0) (vs uses : List ℕ) (all rest many : ℕ) → many ≤ 64 → many ≤ rest →
    ((k : ℕ) → k < 64 → get_or uses k 0 ≡ occurrences ((rest - many) + k) vs) → ((k : ℕ) → k < many → P (get_or uses k 0)) →
    ((n : ℕ) → rest ≤ n → n < all → P (occurrences n vs)) → (n : ℕ) → rest - many ≤ n → n < all → P (occurrences n vs)
window_more P vs uses all rest many few fit counted window later n low high = elim (either n rest) [
  | inl above ↦ later n above high
  | inr below ↦
      let k : ℕ = n - (rest - many) in
      let inside : k < many = omega arith in
      let near : k < 64 = omega arith in
      let is : (rest - many) + k ≡ n = omega arith in
      subst P (counted k near ∙ ap (λ m. occurrences m vs) is) (window k inside)
]
  where
    either : (n rest : ℕ) → (rest ≤ n) ⊎ (n < rest)
    either n rest = grind arith

-- the counts in the front of a window
pub window_from :
    (P : ℕ → Type 0) (uses : List ℕ) (many : ℕ) → length uses ≡ 64 → many ≤ 64 → ((k : ℕ) → k < length (take many uses) → P (get_or (take many uses) k 0)) →
    (k : ℕ) → k < many → P (get_or uses k 0)
window_from P uses many long few h k below =
    let inside : k < length (take many uses) = omega (arith, length-take many uses) in
    subst P (get_or-take many uses k 0 below) (h k inside)

pub window_to :
    (P : ℕ → Type 0) (uses : List ℕ) (many : ℕ) → ((k : ℕ) → k < many → P (get_or uses k 0)) → (k : ℕ) → k < length (take many uses) → P (get_or (take many uses) k 0)
window_to P uses many h k inside =
    let below : k < many = omega (arith, length-take many uses) in
    subst P (sym (get_or-take many uses k 0 below)) (h k below)

-- the number of a variable is its place
pub number_at : (xs : List Variable) (n i : ℕ) → AreNumbered n xs → i < length xs → (get_or xs i no_variable).number ≡ n + i
number_at [] n i a b = absurd (omega arith)
number_at (x ∷ xs) n zero a b = omega (arith, a.0)
number_at (x ∷ xs) n (suc i) a b = omega (arith, number_at xs (suc n) i a.1 (omega arith))

-- the number of a variable of a left-hand side is its place
pub place_number : (xs : List Variable) (i : ℕ) → AreNumbered 0 xs → i < length xs → (get_or xs i no_variable).number ≡ i
place_number xs i a b = omega (arith, number_at xs 0 i a b)

-- where each variable is among some numbers, each place is
pub all_stand : (xs : List Variable) (vars : List ℕ) → AreNumbered 0 xs → Each (λ x. Has vars x.number) xs → (i : ℕ) → i < length xs → Has vars i
all_stand xs vars a h i b =
    subst (Has vars) (place_number xs i a b) (each_has (λ x. Has vars x.number) xs (get_or xs i no_variable) h (has_at xs i no_variable b))

pub numbered_front : (n : ℕ) (xs ys : List Variable) → AreNumbered n (xs ++ ys) → AreNumbered n xs
numbered_front n [] ys h = tt
numbered_front n (x ∷ xs) ys h = (h.0, numbered_front (suc n) xs ys h.1)

-- as many trees are bound as there are variables
pub count-bound : (xs : List Variable) (args : Trees ℕ) → AreBound xs args → count args ≡ length xs
count-bound [] none b = refl
count-bound [] (tree f kids rest) b = absurd b
count-bound (x ∷ xs) none b = absurd b
count-bound (x ∷ xs) (tree f kids rest) b = ap suc (count-bound xs rest b.1)
