-- Lists and their members.
use Rattle.std.specs.Prelude.{◌≡◌, ℕ, ◌+◌, ◌<◌, ◌≤◌, List, [], ◌∷◌, ◌++◌, length, map, take, drop, refl}
use Rattle.std.proofs.Common.{zero, suc, arith, ap, ◌∙◌, subst, inl, inr, get_or}
use Rattle.tib_lex.specs.Lists.{Has, Each, Ascends}
use Rattle.tib_lex.proofs.Members.{each_has, each_of, has_left, has_right}
pub use Rattle.tib_lex.proofs.Lists.{mapped_has as map_has}
pub use Rattle.std.proofs.lemmas.List.{map-append as map_append}

-- what holds for the values of a function
pub each_map : {A B : Type 0} (f : A → B) (P : B → Type 0) (xs : List A) → ((x : A) → Has xs x → P (f x)) → Each P (map f xs)
each_map f P [] h = tt
each_map f P (x ∷ xs) h = (h x (inl refl), each_map f P xs (λ y m. h y (inr m)))

-- an order of members gives one of the values
pub ascends_map :
    {A B : Type 0} (f : A → B) (R : A → A → Type 0) (S : B → B → Type 0) (xs : List A) → ((x y : A) → Has xs x → Has xs y → R x y → S (f x) (f y)) → Ascends R xs → Ascends S (map f xs)
ascends_map f R S [] h a = tt
ascends_map f R S (x ∷ xs) h a = (
  each_map f (S (f x)) xs (λ y m. h x y (inl refl) (inr m) (each_has (R x) xs y a.0 m)),
  ascends_map f R S xs (λ y z m n. h y z (inr m) (inr n)) a.1,
)

-- the front of what ascends
pub ascends_front : {A : Type 0} (R : A → A → Type 0) (xs ys : List A) → Ascends R (xs ++ ys) → Ascends R xs
ascends_front R [] ys a = tt
ascends_front R (x ∷ xs) ys a = (each_of (R x) xs (λ y h. each_has (R x) (xs ++ ys) y a.0 (has_left xs ys y h)), ascends_front R xs ys a.1)

pub ascends_across : {A : Type 0} (R : A → A → Type 0) (xs ys : List A) → Ascends R (xs ++ ys) → (x y : A) → Has xs x → Has ys y → R x y
ascends_across R [] ys a x y h k = absurd h
ascends_across R (z ∷ xs) ys a x y h k = elim h [
  | inl e ↦ subst (λ w. R w y) e (each_has (R z) (xs ++ ys) y a.0 (has_right xs ys y k))
  | inr m ↦ ascends_across R xs ys a.1 x y m k
]

-- what is at a place, and after it
pub drop_head : {A : Type 0} (xs ys : List A) (n : ℕ) (y d : A) → drop n xs ≡ y ∷ ys → (n < length xs) × (get_or xs n d ≡ y) × (drop (suc n) xs ≡ ys)
drop_head [] ys zero y d e = absurd (cc)
drop_head [] ys (suc n) y d e = absurd (cc)
drop_head (x ∷ xs) ys zero y d e = (omega arith, cc, cc)
drop_head (x ∷ xs) ys (suc n) y d e = let h = drop_head xs ys n y d e in (omega (arith, h.0), h.1, h.2)

pub take_long : {A : Type 0} (n : ℕ) (xs : List A) → n ≤ length xs → length (take n xs) ≡ n
take_long zero xs h = refl
take_long (suc n) [] h = absurd (omega arith)
take_long (suc n) (x ∷ xs) h = ap suc (take_long n xs (omega arith))

pub take_few : {A : Type 0} (n : ℕ) (xs : List A) → length (take n xs) ≤ n
take_few zero xs = omega arith
take_few (suc n) [] = omega arith
take_few (suc n) (x ∷ xs) = omega (arith, take_few n xs)

pub take_none : {A : Type 0} (n : ℕ) (xs : List A) → xs ≡ [] → take n xs ≡ []
take_none zero xs e = refl
take_none (suc n) xs e = ap (take (suc n)) e

pub take_has : {A : Type 0} (n : ℕ) (xs : List A) (x : A) → Has (take n xs) x → Has xs x
take_has zero xs x h = absurd h
take_has (suc n) [] x h = absurd h
take_has (suc n) (y ∷ xs) x h = elim h [ inl e ↦ inl e | inr k ↦ inr (take_has n xs x k) ]

pub take_and_drop : {A : Type 0} (n : ℕ) (xs : List A) → take n xs ++ drop n xs ≡ xs
take_and_drop zero xs = refl
take_and_drop (suc n) [] = refl
take_and_drop (suc n) (x ∷ xs) = ap (λ ys. x ∷ ys) (take_and_drop n xs)

pub nothing_long : {A : Type 0} (xs : List A) → length xs ≡ 0 → xs ≡ []
nothing_long [] e = refl
nothing_long (x ∷ xs) e = absurd (omega arith)

-- what is at a place of two lists, one after the other

pub get_right : {A : Type 0} (xs ys : List A) (i n : ℕ) (d : A) → i ≡ length xs + n → get_or (xs ++ ys) i d ≡ get_or ys n d
get_right [] ys i n d e = let s : i ≡ n = omega (arith, e) in ap (λ m. get_or ys m d) s
get_right (x ∷ xs) ys zero n d e = absurd (omega (arith, e))
get_right (x ∷ xs) ys (suc i) n d e = get_right xs ys i n d (omega (arith, e))

-- lists with the same members at each place are the same
pub same_lists : {A : Type 0} (xs ys : List A) (d : A) → length xs ≡ length ys → ((i : ℕ) → i < length xs → get_or xs i d ≡ get_or ys i d) → xs ≡ ys
same_lists [] [] d l h = refl
same_lists [] (y ∷ ys) d l h = absurd (omega (arith, l))
same_lists (x ∷ xs) [] d l h = absurd (omega (arith, l))
same_lists (x ∷ xs) (y ∷ ys) d l h = ap (λ z. z ∷ xs) (h 0 (omega arith)) ∙ ap (λ zs. y ∷ zs) (same_lists xs ys d (omega (arith, l)) (λ i b. h (suc i) (omega (arith, b))))
