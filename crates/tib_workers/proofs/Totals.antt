-- Sums over what the seats know.
use Rattle.std.proofs.Common.{◌≡◌, ℕ, zero, suc, ◌+◌, ◌≤◌, List, [], ◌∷◌, ◌++◌, set, refl, sym, ap, arith}
use mathlib.Core.Option.{some, some-ne-none, some-injective}
use lib.ListN.{get_elem?}
use Rattle.tib_workers.specs.declared.claim.Claim.{Claim}
use Rattle.tib_lex.specs.Lists.{total}

pub total_set : (f : Claim → ℕ) (views : List Claim) (j : ℕ) (v w : Claim) → get_elem? views j ≡ some v → total f (set views j w) + f v ≡ total f views + f w
total_set f [] j v w e = absurd (some-ne-none v (sym e))
total_set f (x ∷ xs) zero v w e = let same : f x ≡ f v = ap f (some-injective x v e) in omega arith
total_set f (x ∷ xs) (suc j) v w e = let h = total_set f xs j v w e in omega arith

pub total_snoc : (f : Claim → ℕ) (views : List Claim) (w : Claim) → total f (views ++ w ∷ []) ≡ total f views + f w
total_snoc f [] w = omega arith
total_snoc f (x ∷ xs) w = let h = total_snoc f xs w in omega arith

pub total_at : (f : Claim → ℕ) (views : List Claim) (j : ℕ) (v : Claim) → get_elem? views j ≡ some v → f v ≤ total f views
total_at f [] j v e = absurd (some-ne-none v (sym e))
total_at f (x ∷ xs) zero v e = let same : f x ≡ f v = ap f (some-injective x v e) in omega arith
total_at f (x ∷ xs) (suc j) v e = let h = total_at f xs j v e in omega arith

pub total_le : (f g : Claim → ℕ) (views : List Claim) → ((j : ℕ) (v : Claim) → get_elem? views j ≡ some v → f v ≤ g v) → total f views ≤ total g views
total_le f g [] h = omega arith
total_le f g (x ∷ xs) h = let a = h 0 x refl in let b = total_le f g xs (λ j v e. h (suc j) v e) in omega arith

module _ (f g : Claim → ℕ) where
  -- where g adds up to nothing
  none_left : (views : List Claim) → ((j : ℕ) (v : Claim) → get_elem? views j ≡ some v → g v ≡ 0 → f v ≡ 0) → total g views ≡ 0 → total f views ≡ 0
  none_left [] idle e = refl
  none_left (x ∷ xs) idle e = let a = idle 0 x refl (omega arith) in let b = none_left xs (λ j v at. idle (suc j) v at) (omega arith) in omega arith

  -- one view has all of g
  pub alone : (views : List Claim) (j : ℕ) (v : Claim) → get_elem? views j ≡ some v → ((k : ℕ) (u : Claim) → get_elem? views k ≡ some u → g u ≡ 0 → f u ≡ 0) → total g views ≡ g v → total f views ≡ f v
  alone [] j v e idle all = absurd (some-ne-none v (sym e))
  alone (x ∷ xs) zero v e idle all =
      let same : f x ≡ f v = ap f (some-injective x v e) in
      let same' : g x ≡ g v = ap g (some-injective x v e) in
      let b = none_left xs (λ k u at. idle (suc k) u at) (omega arith) in omega arith
  alone (x ∷ xs) (suc j) v e idle all =
      let least = total_at g xs j v e in
      let a = idle 0 x refl (omega arith) in
      let b = alone xs j v e (λ k u at. idle (suc k) u at) (omega arith) in omega arith
