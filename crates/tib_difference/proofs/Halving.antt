-- In states that ascend, a search by halves finds what a look at each of them finds.
use Rattle.std.specs.Prelude.{◌≡◌, ℕ, ◌<◌, ◌≤◌, List, [], ◌∷◌, length, Result, Ok, Err, is_ok}
use Rattle.std.proofs.Common.{zero, suc, arith, sym, subst, get_or, inl, inr}
use Rattle.std.proofs.lemmas.Bool.{cases_lt}
use Rattle.std.proofs.lemmas.List.Sorted.{searched}
use Rattle.std.specs.List.Sorted.{IsBinarySearchResult}
use Rattle.std.specs.Ordering.{nat_cmp}
use Rattle.tib_lex.specs.Lists.{Has, Ascends}
use Rattle.tib_lex.proofs.Booleans.{bool_cases}
use Rattle.tib_lex.proofs.Members.{each_has, has_at, at_has}
use Rattle.tib_difference.specs.Lefts.{holds}
use Rattle.tib_difference.proofs.Leads.{holds_has, has_holds}

rises : (xs : List ℕ) → Ascends ◌<◌ xs → (i j : ℕ) → i ≤ j → j < length xs → get_or xs i 0 ≤ get_or xs j 0
rises [] up i j le low = absurd (omega (arith, low))
rises (x ∷ xs) up zero zero le low = omega arith
rises (x ∷ xs) up zero (suc j) le low = let l : x < get_or xs j 0 = each_has (λ y. x < y) xs (get_or xs j 0) up.0 (has_at xs j 0 (omega arith)) in omega (arith, l)
rises (x ∷ xs) up (suc i) zero le low = absurd (omega arith)
rises (x ∷ xs) up (suc i) (suc j) le low = rises xs up.1 i j (omega arith) (omega arith)

pub found_holds : (xs : List ℕ) (q : ℕ) (r : Result ℕ ℕ) → Ascends ◌<◌ xs → IsBinarySearchResult (λ y. nat_cmp y q) xs r → is_ok r ≡ holds xs q
found_holds xs q (Ok i) up is =
    let at = searched xs q (Ok i) is (rises xs up) in
    sym (has_holds xs q (subst (λ (x : ℕ). Has xs x) at.1 (has_at xs i 0 at.0)))
found_holds xs q (Err i) up is =
    let gap = searched xs q (Err i) is (rises xs up) in
    elim (bool_cases (holds xs q)) [ inl t ↦ absurd (absent i gap.1 gap.2 (at_has xs q 0 (holds_has xs q t))) | inr f ↦ sym f ]
  where
    absent : (i : ℕ) → ((k : ℕ) → k < i → get_or xs k 0 < q) → ((k : ℕ) → i ≤ k → k < length xs → q < get_or xs k 0) → (n : ℕ) × (n < length xs) × (get_or xs n 0 ≡ q) → ⊥
    absent i below above h = elim (cases_lt h.0 i) [
      | inl low ↦ (let l = below h.0 low in let e = h.2 in omega (arith, l, e))
      | inr high ↦ (let l = above h.0 high h.1 in let e = h.2 in omega (arith, l, e))
    ]
