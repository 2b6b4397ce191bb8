-- Bytes in quotes, run by run.
use Rattle.std.proofs.Common.{◌≡◌, ℕ, ◌+◌, ◌-◌, ◌<◌, ◌≤◌, false, List, [], ◌∷◌, ◌++◌, length, take, drop, inl, inr, refl, ap, sym, ◌∙◌, arith, suc, zero}
use Rattle.std.specs.Prelude.{◌||◌, ◌==◌, replicate, nat_lt, slice_get, Some}
use Rattle.std.specs.List.{prefix_len}
use Rattle.std.proofs.Math.Seq.{take-add}
use Rattle.tib_lex.specs.Grammar.{escape}
use Rattle.std.proofs.lemmas.Bool.Decides.{nat_tests}
use Rattle.std.proofs.lemmas.List.{take-append-drop, take_all, length-drop}
use Rattle.std.proofs.lemmas.Option.{get_or_from_slice_get}
use Rattle.tib_tree.specs.Growth.{text_at}
use Rattle.tib_tree.specs.Printed.{is_plain_byte, backslash_for, IsRun, gap_text, label_text}
use Rattle.tib_lex.proofs.Booleans.{bool_cases}

-- plain bytes are written as they are
plain_run : (xs : List ℕ) → escape (take (prefix_len is_plain_byte xs) xs) ≡ take (prefix_len is_plain_byte xs) xs
plain_run [] = refl
plain_run (x ∷ xs) = elim (bool_cases (x == 34 || x == 92)) [
  | inl special ↦ rw special refl
  | inr plain ↦
      let s : 1 + prefix_len is_plain_byte xs ≡ suc (prefix_len is_plain_byte xs) = omega arith in
      rw (plain, s, plain) (ap (λ (l : List ℕ). x ∷ l) (plain_run xs))
]

special_first : (b : ℕ) (rest : List ℕ) → escape rest ≡ rest → escape (b ∷ rest) ≡ backslash_for (b ∷ rest) ++ (b ∷ rest)
special_first b rest e = elim (bool_cases (b == 34 || b == 92)) [
  | inl special ↦ rw special (ap (λ (l : List ℕ). 92 ∷ (b ∷ l)) e)
  | inr plain ↦ rw plain (ap (λ (l : List ℕ). b ∷ l) e)
]

run_of : (xs : List ℕ) (n : ℕ) → 0 < length xs → n ≡ prefix_len is_plain_byte (drop 1 xs) → IsRun (take (1 + n) xs)
run_of [] n some e = absurd (omega arith)
run_of (x ∷ xs) n some e =
    let s : 1 + n ≡ suc n = omega arith in
    let t : escape (take n xs) ≡ take n xs = ap (λ (k : ℕ). escape (take k xs)) e ∙ plain_run xs ∙ ap (λ (k : ℕ). take k xs) (sym e) in
    rw s (special_first x (take n xs) t)

pub run_is : (xs : List ℕ) (n : ℕ) → 0 < length xs → n ≡ prefix_len is_plain_byte (take (length xs - 1) (drop 1 xs)) → IsRun (take (1 + n) xs)
run_is xs n some e = run_of xs n some (e ∙ ap (prefix_len is_plain_byte) (take_all (length xs - 1) (drop 1 xs) (omega (arith, length-drop 1 xs))))

pub escape-append : (xs ys : List ℕ) → escape (xs ++ ys) ≡ escape xs ++ escape ys
escape-append [] ys = refl
escape-append (x ∷ xs) ys = elim (bool_cases (x == 34 || x == 92)) [
  | inl special ↦ rw special (ap (λ (l : List ℕ). 92 ∷ (x ∷ l)) (escape-append xs ys))
  | inr plain ↦ rw plain (ap (λ (l : List ℕ). x ∷ l) (escape-append xs ys))
]

-- one more run
pub escape_more : (xs : List ℕ) (at n : ℕ) → escape (take at xs) ++ escape (take n (drop at xs)) ≡ escape (take (at + n) xs)
escape_more xs at n = sym (escape-append (take at xs) (take n (drop at xs))) ∙ ap escape (sym (take-add at n xs))

-- parentheses that close one after another
abbrev closes : ℕ → List ℕ
closes n = replicate n 41

pub closes_split : (k n : ℕ) → k < n → (closes k ++ 41 ∷ []) ++ closes (n - k - 1) ≡ closes n
closes_split k zero h = absurd (omega arith)
closes_split zero (suc n) h = let e : suc n - 0 - 1 ≡ n = omega arith in ap (λ (m : ℕ). 41 ∷ closes m) e
closes_split (suc k) (suc n) h =
    let e : suc n - suc k - 1 ≡ n - k - 1 = omega arith in
    ap (λ (m : ℕ). 41 ∷ ((closes k ++ 41 ∷ []) ++ closes m)) e ∙ ap (λ (l : List ℕ). 41 ∷ l) (closes_split k n (omega arith))

pub gap_not : (above depth : ℕ) → depth ≤ above → replicate (above - depth) 41 ++ 32 ∷ [] ≡ gap_text above depth
gap_not above depth h = let e : nat_lt above depth ≡ false = grind (arith, nat_tests) in rw e refl

-- the text of a label that the table has
pub label_there : (labels : List (List ℕ)) (f : ℕ) (text gap : List ℕ) → slice_get labels f ≡ Some text → gap ++ label_text text ≡ gap ++ label_text (text_at labels f)
label_there labels f text gap e = ap (λ (t : List ℕ). gap ++ label_text t) (sym (get_or_from_slice_get labels f text [] e))

-- the last run
pub escape_rest : (xs : List ℕ) (at end : ℕ) → end ≤ length xs → at ≤ end → (escape (take at xs) ++ escape (take (end - at) (drop at xs))) ++ escape (drop end xs) ≡ escape xs
escape_rest xs at end h k =
    let e : at + (end - at) ≡ end = omega arith in
    ap (λ (l : List ℕ). l ++ escape (drop end xs)) (escape_more xs at (end - at) ∙ ap (λ (m : ℕ). escape (take m xs)) e)
    ∙ sym (escape-append (take end xs) (drop end xs)) ∙ ap escape (take-append-drop end xs)

pub escape_on : (xs : List ℕ) (at n : ℕ) → escape (take at xs) ++ escape (take (at + n - at) (drop at xs)) ≡ escape (take (at + n) xs)
escape_on xs at n = let e : at + (at + n - at) ≡ at + n = omega arith in escape_more xs at (at + n - at) ∙ ap (λ (m : ℕ). escape (take m xs)) e
