-- Parts of a line.
use Rattle.std.proofs.Common.{◌≡◌, ℕ, ◌+◌, ◌-◌, ◌<◌, ◌≤◌, List, [], ◌∷◌, ◌++◌, length, get_or, take, drop, drop-cons, add-one, refl, ap, sym, ◌∙◌, arith, suc, zero}
use Rattle.std.specs.Prelude.{slice_range}
use Rattle.std.proofs.lemmas.List.{drop-take, drop-drop, length-take, length-drop}
use Rattle.std.proofs.Math.Seq.{take-add}

pub slice_drop : (line : List ℕ) (a b k : ℕ) → a + k ≤ b → drop k (slice_range line a b) ≡ slice_range line (a + k) b
slice_drop line a b k h =
    let n : b - a ≡ k + (b - (a + k)) = omega arith in
    ap (λ (m : ℕ). drop k (take m (drop a line))) n
    ∙ drop-take k (b - (a + k)) (drop a line)
    ∙ ap (take (b - (a + k))) (drop-drop k a line)

pub slice_empty : (line : List ℕ) (a : ℕ) → slice_range line a a ≡ []
slice_empty line a = let n : a - a ≡ 0 = omega arith in ap (λ (m : ℕ). take m (drop a line)) n

pub slice_cons : (line : List ℕ) (a b : ℕ) → a < b → b ≤ length line → slice_range line a b ≡ get_or line a 0 ∷ slice_range line (a + 1) b
slice_cons line a b h k =
    let e : drop a line ≡ get_or line a 0 ∷ drop (suc a) line = drop-cons line a 0 (omega arith) in
    let n : b - a ≡ suc (b - suc a) = omega arith in
    rw (add-one, e, n) refl

pub slice_long : (line : List ℕ) (a b : ℕ) → b ≤ length line → length (slice_range line a b) ≡ b - a
slice_long line a b h = omega (arith, length-take (b - a) (drop a line), length-drop a line)

pub slice_joined : (line : List ℕ) (a b c : ℕ) → a ≤ b → b ≤ c → slice_range line a b ++ slice_range line b c ≡ slice_range line a c
slice_joined line a b c h k =
    let n : c - a ≡ (b - a) + (c - b) = omega arith in
    let m : a + (b - a) ≡ b = omega arith in
    let d : drop (b - a) (drop a line) ≡ drop b line = drop-drop (b - a) a line ∙ ap (λ (x : ℕ). drop x line) m in
    sym (ap (λ (x : ℕ). take x (drop a line)) n ∙ take-add (b - a) (c - b) (drop a line) ∙ ap (λ (xs : List ℕ). take (b - a) (drop a line) ++ take (c - b) xs) d)

take_twice : (xs : List ℕ) (n m : ℕ) → n ≤ m → take n (take m xs) ≡ take n xs
take_twice xs zero m h = refl
take_twice [] (suc n) zero h = absurd (omega arith)
take_twice [] (suc n) (suc m) h = refl
take_twice (x ∷ xs) (suc n) zero h = absurd (omega arith)
take_twice (x ∷ xs) (suc n) (suc m) h = ap (λ (ys : List ℕ). x ∷ ys) (take_twice xs n m (omega arith))

pub slice_take : (line : List ℕ) (a b k : ℕ) → a + k ≤ b → take k (slice_range line a b) ≡ slice_range line a (a + k)
slice_take line a b k h =
    let n : a + k - a ≡ k = omega arith in
    take_twice (drop a line) k (b - a) (omega arith) ∙ ap (λ (x : ℕ). take x (drop a line)) (sym n)
