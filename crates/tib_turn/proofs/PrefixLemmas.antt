-- Prefixes of lists.
use Rattle.std.proofs.Common.{◌≡◌, ◌≤◌, List, [], ◌∷◌, ◌++◌, length, Bool, true, false, refl, sym, ap, ◌∙◌, arith, append_assoc, append-nil}
use Rattle.std.specs.Prelude.{nat_lt, if◌then◌else◌}
use Rattle.tib_turn.specs.Prefixes.{IsPrefix}

module _ {A : Type 0} where
  pub IsPrefix-same : (xs ys : List A) → xs ≡ ys → IsPrefix xs ys
  IsPrefix-same xs ys e = ([], sym e ∙ sym (append-nil xs))

  pub IsPrefix-trans : (xs ys zs : List A) → IsPrefix xs ys → IsPrefix ys zs → IsPrefix xs zs
  IsPrefix-trans xs ys zs a b = (a.0 ++ b.0, b.1 ∙ ap (λ l. l ++ b.0) a.1 ∙ append_assoc xs a.0 b.0)

  -- of two prefixes of one list the shorter is a prefix of the longer
  pub IsPrefix-shorter : (xs ys a b : List A) → xs ++ a ≡ ys ++ b → length xs ≤ length ys → IsPrefix xs ys
  IsPrefix-shorter [] ys a b e l = (ys, refl)
  IsPrefix-shorter (x ∷ xs) [] a b e l = absurd (omega arith)
  IsPrefix-shorter (x ∷ xs) (y ∷ ys) a b e l = let t : xs ++ a ≡ ys ++ b = cc in let h : x ≡ y = cc in let r = IsPrefix-shorter xs ys a b t (omega arith) in (r.0, λ i. sym h i ∷ r.1 i)

  pub IsPrefix-longer : (xs ys zs : List A) → IsPrefix xs zs → IsPrefix ys zs → (b : Bool) → nat_lt (length xs) (length ys) ≡ b
      → IsPrefix xs (if b then ys else xs) × IsPrefix ys (if b then ys else xs) × IsPrefix (if b then ys else xs) zs
  IsPrefix-longer xs ys zs a b true e = (IsPrefix-shorter xs ys a.0 b.0 (sym a.1 ∙ b.1) (grind arith), IsPrefix-same ys ys refl, b)
  IsPrefix-longer xs ys zs a b false e = (IsPrefix-same xs xs refl, IsPrefix-shorter ys xs b.0 a.0 (sym b.1 ∙ a.1) (grind arith), a)
