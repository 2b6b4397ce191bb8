-- Numbers of variables as they are read.
use Rattle.std.proofs.Common.{◌≡◌, ℕ, ◌+◌, ◌-◌, ◌*◌, ◌<◌, ◌≤◌, List, [], ◌∷◌, length, get_or, take, drop, drop-cons, add-one, refl, ap, sym, ◌∙◌, arith, Bool, true, false, zero, suc}
use Rattle.std.specs.Prelude.{nat_lt}
use Rattle.std.specs.List.{list_all, prefix_len}
use Rattle.std.proofs.lemmas.Bool.Decides.{nat_tests}
use Rattle.std.proofs.lemmas.List.{drop_all}
use Rattle.tib_grammar_file.specs.Weight.{is_digit, decimal, decimal_from}
use Rattle.tib_lex.proofs.Spelled.{and_true}

-- numbers of this many digits are below it
abbrev pub bound : ℕ → ℕ
bound zero = 1
bound (suc n) = 10 * bound n

-- what was read of digits, and those that are left
pub record Value (digits : List ℕ) (value at : ℕ) : Type 0 where
  pub within : at ≤ length digits
  pub small : value < bound at
  pub left : list_all is_digit (drop at digits) ≡ true
  pub rest : decimal_from value (drop at digits) ≡ decimal digits

pub value_starts : (digits : List ℕ) → list_all is_digit digits ≡ true → Value digits 0 0
value_starts digits d = record { within = omega arith; small = omega arith; left = d; rest = refl }

pub here : (digits : List ℕ) (at : ℕ) → at < length digits → list_all is_digit (drop at digits) ≡ true → (is_digit (get_or digits at 0) ≡ true) × (list_all is_digit (drop (at + 1) digits) ≡ true)
here digits at h d =
    let e : drop at digits ≡ get_or digits at 0 ∷ drop (suc at) digits = drop-cons digits at 0 h in
    let a = and_true _ _ (ap (list_all is_digit) (sym e) ∙ d) in
    rw add-one (a.0, a.1)

digit_small : (b : ℕ) → is_digit b ≡ true → (48 ≤ b) × (b < 58)
digit_small b e =
    let h = and_true _ _ e in
    let l : nat_lt 47 b ≡ true = h.0 in
    let r : nat_lt b 58 ≡ true = h.1 in
    (grind (arith, nat_tests), grind (arith, nat_tests))

bounded : (n : ℕ) → n < 9 → bound n ≤ 100000000
bounded zero h = omega arith
bounded (suc zero) h = omega arith
bounded (suc (suc zero)) h = omega arith
bounded (suc (suc (suc zero))) h = omega arith
bounded (suc (suc (suc (suc zero)))) h = omega arith
bounded (suc (suc (suc (suc (suc zero))))) h = omega arith
bounded (suc (suc (suc (suc (suc (suc zero)))))) h = omega arith
bounded (suc (suc (suc (suc (suc (suc (suc zero))))))) h = omega arith
bounded (suc (suc (suc (suc (suc (suc (suc (suc zero)))))))) h = omega arith
bounded (suc (suc (suc (suc (suc (suc (suc (suc (suc n))))))))) h = absurd (omega arith)

-- the next digit is one, and what is read with it fits 32 bits
pub next_fits : (digits : List ℕ) (value at : ℕ) → length digits < 10 → at < length digits → Value digits value at → (48 ≤ get_or digits at 0) × (10 * value + (get_or digits at 0 - 48) < 4294967296)
next_fits digits value at few h v =
    let d = digit_small (get_or digits at 0) (here digits at h v.left).0 in
    let b = bounded at (omega arith) in
    (d.0, omega (arith, d.0, d.1, b, v.small))

pub value_goes : (digits : List ℕ) (value at : ℕ) → at < length digits → Value digits value at → Value digits (10 * value + (get_or digits at 0 - 48)) (at + 1)
value_goes digits value at h v =
    let e : drop at digits ≡ get_or digits at 0 ∷ drop (suc at) digits = drop-cons digits at 0 h in
    let g = here digits at h v.left in
    let d = digit_small (get_or digits at 0) g.0 in
    record {
      within = omega arith;
      small = rw add-one (omega (arith, d.0, d.1, v.small));
      left = g.1;
      rest = rw add-one (sym (ap (decimal_from value) e) ∙ v.rest);
    }

pub value_ends : (digits : List ℕ) (value at : ℕ) → length digits ≤ at → Value digits value at → value ≡ decimal digits
value_ends digits value at h v = sym (ap (decimal_from value) (drop_all at digits h)) ∙ v.rest

-- the digits at the front are digits
front_more : (b : ℕ) (text : List ℕ) (c : Bool) → is_digit b ≡ c → list_all is_digit (take (prefix_len is_digit text) text) ≡ true → list_all is_digit (take (prefix_len is_digit (b ∷ text)) (b ∷ text)) ≡ true
front_more b text true e ih = let n : 1 + prefix_len is_digit text ≡ suc (prefix_len is_digit text) = omega arith in rw (e, n, e) ih
front_more b text false e ih = rw e refl

pub front_digits : (text : List ℕ) → list_all is_digit (take (prefix_len is_digit text) text) ≡ true
front_digits [] = refl
front_digits (b ∷ text) = front_more b text (is_digit b) refl (front_digits text)
