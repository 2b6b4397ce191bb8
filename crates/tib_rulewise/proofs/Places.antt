-- The places of variables among pairs.
use Rattle.std.specs.Prelude.{◌≡◌, ℕ, ◌+◌, ◌<◌, List, [], ◌∷◌, length, map, refl}
use Rattle.std.proofs.Common.{zero, suc, arith, ap, sym, subst, inl, inr, get_or}
use Rattle.std.proofs.lemmas.List.{length-map}
use Rattle.tib_lex.specs.Lists.{Has, Each, Distinct}
use Rattle.tib_lex.proofs.Numbers.{nat_eq_cases}
use Rattle.tib_lex.proofs.Members.{each_has, has_at}
use Rattle.tib_transducer.specs.Rules.{no_variable}
use Rattle.tib_transducer.specs.Range.{AreNumbered}
use Rattle.tib_transducer.specs.declared.Variable.{Variable}
use Rattle.tib_transducer.specs.declared.Pair.{Pair}
use Rattle.tib_rulewise.specs.Inverse.{place_of}
use Rattle.tib_transducer.proofs.Counting.{number_at, place_number}

-- the place of a variable that a pair has is within, and has that variable
pub place_below : (xs : List (Pair ℕ)) (v : ℕ) → Has (map (λ x. x.variable) xs) v → place_of xs v < length xs
place_below [] v h = absurd h
place_below (x ∷ xs) v h = elim (nat_eq_cases v x.variable) [
  | inl k ↦ rw k.1 (omega arith)
  | inr k ↦
      let more : place_of xs v < length xs = place_below xs v (elim h [ inl e ↦ absurd (k.0 (sym e)) | inr m ↦ m ]) in
      rw k.1 (omega (arith, more))
]

pub at_place : (xs : List (Pair ℕ)) (v : ℕ) → Has (map (λ x. x.variable) xs) v → get_or (map (λ x. x.variable) xs) (place_of xs v) 0 ≡ v
at_place [] v h = absurd h
at_place (x ∷ xs) v h = elim (nat_eq_cases v x.variable) [
  | inl k ↦ rw k.1 (sym k.0)
  | inr k ↦ rw k.1 (at_place xs v (elim h [ inl e ↦ absurd (k.0 (sym e)) | inr m ↦ m ]))
]

-- of pairs with distinct variables each is at the place of its variable
pub place_at : (xs : List (Pair ℕ)) (i : ℕ) → Distinct (map (λ x. x.variable) xs) → i < length xs → place_of xs (get_or (map (λ x. x.variable) xs) i 0) ≡ i
place_at [] i d b = absurd (omega arith)
place_at (x ∷ xs) zero d b = elim (nat_eq_cases x.variable x.variable) [ inl k ↦ rw k.1 | inr k ↦ absurd (k.0 refl) ]
place_at (x ∷ xs) (suc i) d b =
    let vs : List ℕ = map (λ (y : Pair ℕ). y.variable) xs in
    let stands : Has vs (get_or vs i 0) = has_at vs i 0 (omega (arith, b, length-map xs (λ (y : Pair ℕ). y.variable))) in
    elim (nat_eq_cases (get_or vs i 0) x.variable) [
      | inl k ↦ absurd (d.0 (subst (Has vs) k.0 stands))
      | inr k ↦ rw k.1 (ap suc (place_at xs i d.1 (omega arith)))
    ]

-- the numbers of variables are below how many they are
pub numbers_below : (xs : List Variable) (n : ℕ) → AreNumbered n xs → Each (λ x. x.number < n + length xs) xs
numbers_below [] n a = tt
numbers_below (x ∷ xs) n a = (omega (arith, a.0), shift xs (numbers_below xs (suc n) a.1))
  where
    shift : (ys : List Variable) → Each (λ y. y.number < suc n + length xs) ys → Each (λ y. y.number < n + suc (length xs)) ys
    shift [] h = tt
    shift (y ∷ ys) h = (omega (arith, h.0), shift ys h.1)
