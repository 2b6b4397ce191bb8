-- Lines in order.
use Rattle.std.proofs.Common.{◌≡◌, ℕ, ◌<◌, ◌≤◌, List, [], ◌∷◌, length, get_or, refl, ap, sym, ◌∙◌, inl, inr, ◌⊎◌, true, false}
use Rattle.std.specs.Prelude.{IsSorted}
use Rattle.std.specs.Cmp.{IsTotalOrder}
use Rattle.std.specs.Cmp.Lexicographic.{slice_cmp}
use Rattle.std.specs.Ordering.{nat_cmp, ordering_then, ordering_reverse, is_lt}
use Rattle.std.specs.declared.cmp.Ordering.{Ordering}
use Rattle.std.specs.declared.cmp.Ordering.TheVariants.{Less, Equal, Greater}
use Rattle.std.proofs.lemmas.Cmp.{ranked, on_total, then_total, nat_cmp_total, nat_list_cmp_total}
use Rattle.std.proofs.lemmas.List.Sorted.{ranks_by, sorted_far}
use Rattle.tib_canon.specs.LineOrder.{text_cmp, line_cmp, lines_total_order}
use Rattle.tib_canon.specs.declared.lines.Line.{Line}
use Rattle.tib_lex.proofs.PairOrder.{both_equal, less_goes_on}

text_total : IsTotalOrder text_cmp
text_total = then_total (on_total (λ (x : Line). x.left) nat_cmp_total) (on_total (λ (x : Line). x.text.now) nat_list_cmp_total)

pub turned : (o : Ordering) → Greater ≡ ordering_reverse o → o ≡ Less
turned Less e = refl
turned Equal e = absurd (cc)
turned Greater e = absurd (cc)

pub number_same : (a b : ℕ) → nat_cmp a b ≡ Equal → a ≡ b
number_same a b e = ranked a b Equal (sym e)

pub text_same : (xs ys : List ℕ) → slice_cmp nat_cmp xs ys ≡ Equal → xs ≡ ys
text_same [] [] e = refl
text_same [] (y ∷ ys) e = absurd (cc)
text_same (x ∷ xs) [] e = absurd (cc)
text_same (x ∷ xs) (y ∷ ys) e =
    let t = both_equal (nat_cmp x y) (slice_cmp nat_cmp xs ys) e in
    ap (λ (z : ℕ). z ∷ xs) (number_same x y t.0) ∙ ap (λ (zs : List ℕ). y ∷ zs) (text_same xs ys t.1)

-- of two lines in order the first is less, or they are the same
in_turn : (x y : Line) → is_lt (line_cmp y x) ≡ false → (text_cmp x y ≡ Less) ⊎ ((x.left ≡ y.left) × (x.text.now ≡ y.text.now))
in_turn x y h = by (text_cmp x y) refl
  where
    by : (o : Ordering) → text_cmp x y ≡ o → (text_cmp x y ≡ Less) ⊎ ((x.left ≡ y.left) × (x.text.now ≡ y.text.now))
    by Less e = inl e
    by Equal e = let t = both_equal (nat_cmp x.left y.left) (slice_cmp nat_cmp x.text.now y.text.now) e in inr (number_same x.left y.left t.0, text_same x.text.now y.text.now t.1)
    by Greater e =
        let back : text_cmp y x ≡ Less = turned (text_cmp y x) (sym e ∙ text_total.antisymm x y) in
        let bad : true ≡ false = sym (less_goes_on (nat_cmp y.left x.left) (slice_cmp nat_cmp y.text.now x.text.now) (nat_cmp y.position x.position) back) ∙ h in
        absurd (cc)

pub sorted_apart : (lines : List Line) (i j : ℕ) (d : Line) → IsSorted line_cmp lines → i ≤ j → j < length lines → let x = get_or lines i d in let y = get_or lines j d in (text_cmp x y ≡ Less) ⊎ ((x.left ≡ y.left) × (x.text.now ≡ y.text.now))
sorted_apart lines i j d s h k =
    in_turn (get_or lines i d) (get_or lines j d) (sorted_far (λ x y. is_lt (line_cmp x y)) (ranks_by lines_total_order (λ x. x)) lines s i j d h k)
