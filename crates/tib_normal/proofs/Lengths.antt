-- Lengths that names have: among one more than there are names, one is free.
use Rattle.std.specs.Prelude.{◌≡◌, ℕ, ◌+◌, ◌*◌, ◌<◌, ◌≤◌, List, [], ◌∷◌, ◌++◌, length, set, get_or, replicate, refl, Bool, false, true, not, cond, nat_lt, count_by, Some, None}
use Rattle.std.specs.List.{position, prefix_len}
use Rattle.std.proofs.Common.{inl, inr, length-set, arith, ap, sym, ◌∙◌, subst}
use Rattle.std.proofs.lemmas.Bool.{cases_eq}
use Rattle.std.proofs.lemmas.Bool.Decides.{nat_tests}
use Rattle.std.proofs.lemmas.List.{get_or-set_same, get_or-set_other, length_push, length-replicate}
use Rattle.std.proofs.lemmas.List.Folds.{sum_by-replicate}
use Rattle.std.proofs.lemmas.List.Quantifiers.{position-Some}
use Rattle.std.proofs.lemmas.List.Sums.{sum_by-cons, sum_by-set}
use Rattle.tib_grammar.proofs.Members.{has_either}
use Rattle.tib_normal.specs.PlaceNames.{IsFree, AreTaken}

pub taken-none : (room : ℕ) (taken : List Bool) → taken ≡ replicate room false → AreTaken [] room taken
taken-none room taken is = record {
  long = ap length is ∙ length-replicate room false;
  few =
      let none : count_by (λ b. b) taken ≡ room * 0 = ap (count_by (λ b. b)) is ∙ sum_by-replicate (λ b. cond b 1 0) room false in
      omega arith;
  held = λ text n h. absurd h;
}

-- a name whose length has no place there
pub taken-beyond :
    (names : List (List ℕ)) (room : ℕ) (taken : List Bool) (text : List ℕ) → AreTaken names room taken → ((n : ℕ) → length text ≡ 9 + n → n < room → ⊥) →
    AreTaken (names ++ text ∷ []) room taken
taken-beyond names room taken text are beyond = record {
  long = are.long;
  few = omega (arith, are.few, length_push names text);
  held = λ name n h long low. elim (has_either names (text ∷ []) name h) [
    | inl k ↦ are.held name n k long low
    | inr k ↦ elim k [ inl e ↦ absurd (beyond n (ap length e ∙ long) low) | inr a ↦ absurd a ]
  ];
}

-- and one whose length has
pub taken-more :
    (names : List (List ℕ)) (room : ℕ) (taken new : List Bool) (text : List ℕ) (m : ℕ) → AreTaken names room taken → length text ≡ 9 + m → m < room → new ≡ set taken m true →
    AreTaken (names ++ text ∷ []) room new
taken-more names room taken new text m are is low set_is = record {
  long = ap length set_is ∙ length-set taken m true ∙ are.long;
  few =
      let fits : m < length taken = omega (arith, are.long) in
      let sum : count_by (λ b. b) (set taken m true) + cond (get_or taken m false) 1 0 ≡ count_by (λ b. b) taken + 1 = sum_by-set (λ b. cond b 1 0) taken m true false fits in
      let count : count_by (λ b. b) new ≡ count_by (λ b. b) (set taken m true) = ap (count_by (λ b. b)) set_is in
      omega (arith, are.few, length_push names text);
  held = λ name n h long below. subst (λ (z : List Bool). get_or z n false ≡ true) (sym set_is) (elim (cases_eq n m) [
    | inl e ↦ subst (λ z. get_or (set taken m true) z false ≡ true) (sym e) (get_or-set_same taken m true false (omega (arith, are.long)))
    | inr other ↦
        get_or-set_other taken m n true false other
        ∙ elim (has_either names (text ∷ []) name h) [
          | inl k ↦ are.held name n k long below
          | inr k ↦ elim k [ inl e ↦ absurd (other (omega (arith, ap length e))) | inr a ↦ absurd a ]
        ]
  ]);
}

-- if all are taken, as many are counted as there are
all_taken : (taken : List Bool) → length taken ≤ prefix_len (λ b. not (not b)) taken → count_by (λ b. b) taken ≡ length taken
all_taken [] h = refl
all_taken (true ∷ taken) h = sum_by-cons (λ b. cond b 1 0) true taken ∙ omega (arith, all_taken taken (omega arith))
all_taken (false ∷ taken) h = absurd (omega arith)

-- so one is free
pub one_is_free : (names : List (List ℕ)) (taken : List Bool) → AreTaken names (length names + 1) taken → position not taken ≡ None → ⊥
one_is_free names taken are none = full (nat_lt (prefix_len (λ b. not (not b)) taken) (length taken)) refl none
  where
    full : (b : Bool) → nat_lt (prefix_len (λ b. not (not b)) taken) (length taken) ≡ b → cond b (Some (prefix_len (λ b. not (not b)) taken)) None ≡ None → ⊥
    full true low e = absurd (cc e)
    full false low e =
        let past : length taken ≤ prefix_len (λ b. not (not b)) taken = grind (arith, nat_tests) in
        absurd (omega (arith, are.few, are.long, all_taken taken past))

-- and no name has the first free one
pub first_is_free : (names : List (List ℕ)) (taken : List Bool) (n : ℕ) → AreTaken names (length names + 1) taken → position not taken ≡ Some n → IsFree names (9 + n)
first_is_free names taken n are at = λ text h long.
    let found = position-Some not taken n false at in
    let low : n < length names + 1 = omega (arith, found.0, are.long) in
    both (get_or taken n false) (are.held text n h long low) found.1
  where
    both : (b : Bool) → b ≡ true → not b ≡ true → ⊥
    both true e n = cc
    both false e n = cc
