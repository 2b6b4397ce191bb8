-- The rules that use a state, one after another.
use Rattle.std.specs.Prelude.{◌≡◌, ℕ, ◌+◌, ◌<◌, ◌≤◌, nat_eq, List, [], ◌∷◌, ◌++◌, length, map, drop, refl}
use Rattle.std.proofs.Common.{zero, suc, arith, get_or, add-one, inl, inr}
use Rattle.tib_lex.specs.Lists.{Each, Has}
use Rattle.tib_lex.proofs.Lists.{each_append}
use Rattle.tib_grammar.specs.declared.Rule.{Rule}
use Rattle.tib_key_edges.proofs.Places.{place_is}
use Rattle.tib_difference.specs.Difference.{KeyOf}
use Rattle.tib_difference.specs.Tries.{places_with, states_in, tries_all, tries_at, users_of}
use Rattle.tib_difference.specs.Using.{IsUser}

each_map : {A B : Type 0} (Q : B → Type 0) (f : A → B) (xs : List A) → ((x : A) → Has xs x → Q (f x)) → Each Q (map f xs)
each_map Q f [] h = tt
each_map Q f (x ∷ xs) h = (h x (inl refl), each_map Q f xs (λ y k. h y (inr k)))

-- the first k rules, with places that have a state
pub users_are : (one : List (Rule ℕ)) (q k : ℕ) → k ≤ length one → Each (IsUser one) (users_of one q k)
users_are one q zero h = tt
users_are one q (suc k) h =
    each_append (IsUser one) (users_of one q k) (map (λ j. (k, j)) (places_with q (states_in one k))) (users_are one q k (omega arith))
    (each_map (IsUser one) (λ j. (k, j)) (places_with q (states_in one k)) (λ j m. (omega arith, (place_is (λ p. nat_eq p q) (states_in one k) j 0 m).0)))

module _ (one : List (Rule ℕ)) where
  from_place :
      (order : List KeyOf) (n : ℕ) (us : List (ℕ × ℕ)) (i : ℕ) → i < length us →
      tries_all one order n (drop i us) ≡ tries_at one order n (get_or us i (0, 0)).0 (get_or us i (0, 0)).1 ++ tries_all one order n (drop (suc i) us)
  from_place order n [] i low = absurd (omega arith)
  from_place order n (v ∷ us) zero low = refl
  from_place order n (v ∷ us) (suc i) low = from_place order n us i (omega arith)

  -- what is tried for the next rule, and for those behind it
  pub tries_step :
      (order : List KeyOf) (n : ℕ) (us : List (ℕ × ℕ)) (i : ℕ) → i < length us →
      tries_all one order n (drop i us) ≡ tries_at one order n (get_or us i (0, 0)).0 (get_or us i (0, 0)).1 ++ tries_all one order n (drop (i + 1) us)
  tries_step order n us i low = rw add-one (from_place order n us i low)

  -- none are left
  pub tries_end : (order : List KeyOf) (n : ℕ) (us : List (ℕ × ℕ)) (i : ℕ) → length us ≤ i → tries_all one order n (drop i us) ≡ []
  tries_end order n [] zero long = refl
  tries_end order n [] (suc i) long = refl
  tries_end order n (v ∷ us) zero long = absurd (omega arith)
  tries_end order n (v ∷ us) (suc i) long = tries_end order n us i (omega arith)
