-- Shelves of which one gave its last key.
use Rattle.std.proofs.Common.{◌≡◌, ℕ, zero, suc, ◌<◌, List, [], ◌∷◌, ◌++◌, map, length, set, get_or, Option, Some, None, refl, sym, ap, ◌∙◌, arith}
use Rattle.std.specs.Prelude.{MatchOption}
use Rattle.tib_table.specs.Kept.{Kept, keys_of}
use Rattle.tib_table.specs.Known.{on}

module _ {D K : Type 0} where
  -- the keys of shelves of which one is exchanged
  pub keys_set : (ks : List (Kept D K)) (i : ℕ) (t : Kept D K) → map keys_of (set ks i t) ≡ set (map keys_of ks) i t.keys
  keys_set [] i t = refl
  keys_set (k ∷ ks) zero t = refl
  keys_set (k ∷ ks) (suc i) t = ap (λ l. k.keys ∷ l) (keys_set ks i t)

  -- the keys of the shelf that was put in
  pub here_after : (ks : List (Kept D K)) (i : ℕ) (t : Kept D K) → i < length ks → on (map keys_of (set ks i t)) i ≡ t.keys
  here_after [] i t l = absurd (omega arith)
  here_after (k ∷ ks) zero t l = refl
  here_after (k ∷ ks) (suc i) t l = here_after ks i t (omega arith)

  -- the keys of the shelf that was there
  pub here_before : (ks : List (Kept D K)) (i : ℕ) (s : Kept D K) → s ≡ get_or ks i s → i < length ks → on (map keys_of ks) i ≡ s.keys
  here_before [] i s e l = absurd (omega arith)
  here_before (k ∷ ks) zero s e l = ap keys_of (sym e)
  here_before (k ∷ ks) (suc i) s e l = here_before ks i s e (omega arith)

  module _ (ks : List (Kept D K)) (i : ℕ) (s t : Kept D K) (v : List (List K)) (at : s ≡ get_or ks i s) (low : i < length ks) (view : map keys_of ks ≡ v) where
    before : on v i ≡ s.keys
    before = ap (λ (l : List (List K)). on l i) (sym view) ∙ here_before ks i s at low

    pub taken_from : (r : Option K) → MatchOption r ((s.keys ≡ []) × (t.keys ≡ [])) (λ k. s.keys ≡ t.keys ++ k ∷ [])
        → MatchOption r (on v i ≡ []) (λ k. on v i ≡ on (map keys_of (set ks i t)) i ++ k ∷ [])
    taken_from None h = before ∙ h.0
    taken_from (Some k) h = before ∙ h ∙ ap (λ (l : List K). l ++ k ∷ []) (sym (here_after ks i t low))

    pub others_stay : map keys_of (set ks i t) ≡ set v i (on (map keys_of (set ks i t)) i)
    others_stay = keys_set ks i t ∙ (let e = sym (here_after ks i t low) in λ j. set (view j) i (e j))
