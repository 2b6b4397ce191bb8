-- Texts that are compared byte by byte.
use Rattle.std.specs.Prelude.{◌≡◌, ℕ, ◌+◌, ◌-◌, ◌<◌, ◌≤◌, ◌⊎◌, List, [], ◌∷◌, length, drop}
use Rattle.std.specs.declared.cmp.Ordering.TheVariants.{Less, Equal, Greater}
use Rattle.std.specs.Ordering.{nat_cmp, ordering_then}
use Rattle.std.specs.Cmp.{nat_cmp_is}
use Rattle.std.specs.Cmp.Lexicographic.{slice_cmp}
use Rattle.std.proofs.Common.{suc, arith, ap, sym, ◌∙◌, inl, inr, get_or, add-one}
use Rattle.std.proofs.lemmas.List.{length-drop}
use Rattle.std.proofs.Math.Seq.{drop-cons}
use Rattle.tib_tree.proofs.Orderings.{nat_itself, then_decided}

-- so far the bytes are equal
abbrev pub SoFar : ℕ → List ℕ → List ℕ → Type 0
SoFar i xs ys = slice_cmp nat_cmp xs ys ≡ slice_cmp nat_cmp (drop i xs) (drop i ys)

pub step_equal : (i : ℕ) (xs ys : List ℕ) (m n z : ℕ) → i < length xs → i < length ys → m ≡ get_or xs i z → n ≡ get_or ys i z → nat_cmp m n ≡ Equal → SoFar i xs ys → SoFar (i + 1) xs ys
step_equal i xs ys m n z h k x y e so =
    let a : drop i xs ≡ m ∷ drop (suc i) xs = drop-cons xs i z h ∙ ap (λ w. w ∷ drop (suc i) xs) (sym x) in
    let b : drop i ys ≡ n ∷ drop (suc i) ys = drop-cons ys i z k ∙ ap (λ w. w ∷ drop (suc i) ys) (sym y) in
    rw (add-one i)
    (so ∙ ap (λ zs. slice_cmp nat_cmp zs (drop i ys)) a ∙ ap (slice_cmp nat_cmp (m ∷ drop (suc i) xs)) b ∙ ap (λ o. ordering_then o (slice_cmp nat_cmp (drop (suc i) xs) (drop (suc i) ys))) e)

pub step_other : (i : ℕ) (xs ys : List ℕ) (m n z : ℕ) → i < length xs → i < length ys → m ≡ get_or xs i z → n ≡ get_or ys i z → (nat_cmp m n ≡ Equal → ⊥) → SoFar i xs ys → nat_cmp m n ≡ slice_cmp nat_cmp xs ys
step_other i xs ys m n z h k x y other so =
    let a : drop i xs ≡ m ∷ drop (suc i) xs = drop-cons xs i z h ∙ ap (λ w. w ∷ drop (suc i) xs) (sym x) in
    let b : drop i ys ≡ n ∷ drop (suc i) ys = drop-cons ys i z k ∙ ap (λ w. w ∷ drop (suc i) ys) (sym y) in
    sym
    (so ∙ ap (λ zs. slice_cmp nat_cmp zs (drop i ys)) a ∙ ap (slice_cmp nat_cmp (m ∷ drop (suc i) xs)) b ∙ then_decided (nat_cmp m n) (slice_cmp nat_cmp (drop (suc i) xs) (drop (suc i) ys)) other)

pub ends : (i : ℕ) (xs ys : List ℕ) → i ≤ length xs → i ≤ length ys → (length xs ≤ i) ⊎ (length ys ≤ i) → SoFar i xs ys → nat_cmp (length xs) (length ys) ≡ slice_cmp nat_cmp xs ys
ends i xs ys h k end so = by (drop i xs) (drop i ys) (length-drop i xs) (length-drop i ys) (sym so)
  where
    by :
        (us vs : List ℕ) → length us ≡ length xs - i → length vs ≡ length ys - i → slice_cmp nat_cmp us vs ≡ slice_cmp nat_cmp xs ys →
        nat_cmp (length xs) (length ys) ≡ slice_cmp nat_cmp xs ys
    by [] [] a b e = let s : length xs ≡ length ys = omega (arith, a, b, h, k) in ap (λ n. nat_cmp n (length ys)) s ∙ nat_itself (length ys) ∙ e
    by [] (v ∷ vs) a b e = let s : length xs < length ys = omega (arith, a, b, h, k) in sym (nat_cmp_is (length xs) (length ys) Less s) ∙ e
    by (u ∷ us) [] a b e = let s : length ys < length xs = omega (arith, a, b, h, k) in sym (nat_cmp_is (length xs) (length ys) Greater s) ∙ e
    by (u ∷ us) (v ∷ vs) a b e = absurd (elim end [ inl x ↦ omega (arith, a) | inr y ↦ omega (arith, b) ])
