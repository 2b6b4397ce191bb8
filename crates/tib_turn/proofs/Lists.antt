-- What holds of each element after one is set or added.
use Rattle.std.proofs.Common.{◌≡◌, ◌≢◌, ℕ, zero, suc, List, [], ◌∷◌, ◌++◌, set, refl, sym, subst, ⊎_elim}
use mathlib.Core.Option.{some, some-ne-none}
use lib.ListN.{get_elem?}
use Rattle.atomic_table.proofs.Lists.{at_set, at_snoc}

module _ {A : Type 0} where
  pub here_after : (xs : List A) (j : ℕ) (v w : A) → get_elem? xs j ≡ some v → get_elem? (set xs j w) j ≡ some w
  here_after [] j v w e = absurd (some-ne-none v (sym e))
  here_after (x ∷ xs) zero v w e = refl
  here_after (x ∷ xs) (suc j) v w e = here_after xs j v w e

  pub all_set : (F : ℕ → A → Type 0) (xs : List A) (at : ℕ) (w : A) → F at w → ((j : ℕ) (u : A) → j ≢ at → get_elem? xs j ≡ some u → F j u) → (j : ℕ) (u : A) → get_elem? (set xs at w) j ≡ some u → F j u
  all_set F xs at w mine others j u e = ⊎_elim (λ (x : (j ≡ at) × (w ≡ u)). subst (λ (y : ℕ × A). F y.0 y.1) (λ i. (sym x.0 i, x.1 i)) mine) (λ (x : (j ≢ at) × (get_elem? xs j ≡ some u)). others j u x.0 x.1) (at_set xs at j w u e)

  pub all_snoc : (F : ℕ → A → Type 0) (xs : List A) (w : A) → ((j : ℕ) → F j w) → ((j : ℕ) (u : A) → get_elem? xs j ≡ some u → F j u) → (j : ℕ) (u : A) → get_elem? (xs ++ w ∷ []) j ≡ some u → F j u
  all_snoc F xs w mine others j u e = ⊎_elim (λ x. others j u x) (λ (x : w ≡ u). subst (F j) x (mine j)) (at_snoc xs w u j e)
