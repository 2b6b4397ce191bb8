-- Lists of edges.
use Rattle.std.specs.Prelude.{◌≡◌, ℕ, ◌+◌, ◌<◌, ◌≤◌, List, [], ◌∷◌, ◌++◌, length, map, take, zip, refl}
use Rattle.std.proofs.Common.{zero, suc, arith, ap, sym, ◌∙◌, get_or, append_assoc}
use Rattle.std.proofs.lemmas.List.{take_all}

-- one more pair of two lists side by side
pub zip_at :
    {A B C D : Type 0} (f : A → C) (g : B → D) (xs : List A) (ys : List B) (i : ℕ) (x : A) (y : B) → i < length xs → i < length ys →
    take (i + 1) (zip (map f xs) (map g ys)) ≡ take i (zip (map f xs) (map g ys)) ++ (f (get_or xs i x), g (get_or ys i y)) ∷ []
zip_at f g [] ys i x y h k = absurd (omega arith)
zip_at f g (a ∷ xs) [] i x y h k = absurd (omega arith)
zip_at f g (a ∷ xs) (b ∷ ys) zero x y h k = refl
zip_at {A} {B} {C} {D} f g (a ∷ xs) (b ∷ ys) (suc i) x y h k =
    let one : suc i + 1 ≡ suc (i + 1) = omega arith in
    ap (λ j. take j ((f a, g b) ∷ zip (map f xs) (map g ys))) one ∙ ap (λ (zs : List (C × D)). (f a, g b) ∷ zs) (zip_at f g xs ys i x y (omega arith) (omega arith))

-- all pairs of two lists
pub zip_all : {A B C D : Type 0} (f : A → C) (g : B → D) (xs : List A) (ys : List B) (i : ℕ) → length xs ≤ i → take i (zip (map f xs) (map g ys)) ≡ zip (map f xs) (map g ys)
zip_all f g xs ys i h = take_all i (zip (map f xs) (map g ys)) (omega (arith, shorter f g xs ys))
  where
    shorter : {A B C D : Type 0} (f : A → C) (g : B → D) (xs : List A) (ys : List B) → length (zip (map f xs) (map g ys)) ≤ length xs
    shorter f g [] ys = omega arith
    shorter f g (x ∷ xs) [] = omega arith
    shorter f g (x ∷ xs) (y ∷ ys) = omega (arith, shorter f g xs ys)

-- a list that is pushed to
pub pushed : (before now zs more : List (ℕ × ℕ)) {k l : ℕ × ℕ} → now ≡ before ++ zs → k ≡ l → more ≡ zs ++ l ∷ [] → now ++ k ∷ [] ≡ before ++ more
pushed before now zs more {k} {l} e d m =
    ap (λ (xs : List (ℕ × ℕ)). xs ++ k ∷ []) e ∙ ap (λ x. (before ++ zs) ++ x ∷ []) d ∙ append_assoc before zs (l ∷ []) ∙ ap (λ (xs : List (ℕ × ℕ)). before ++ xs) (sym m)

-- pairs of equal components are equal
pub same_pair : {a b c d : ℕ} → a ≡ b → c ≡ d → ◌≡◌ {A = ℕ × ℕ} (a, c) (b, d)
same_pair e k = rw (e, k)
