-- Which texts are names.
use Rattle.std.proofs.Common.{◌≡◌, ℕ, ◌+◌, ◌<◌, suc, Bool, true, false, List, [], ◌∷◌, length, refl, ap, sym, ◌∙◌, arith}
use Rattle.std.specs.Prelude.{◌&&◌, not, cond}
use Rattle.std.specs.List.{list_all, prefix_len}
use Rattle.std.specs.Str.{bytes_eq}
use Rattle.tib_lex.specs.Bytes.{is_name_byte}
use Rattle.tib_lex.specs.Grammar.{IsName, is_name}
use Rattle.tib_lex.proofs.Spelled.{and_true}
use Rattle.tib_lex.proofs.Booleans.{and-both}

not_true : (b : Bool) → not b ≡ true → b ≡ false
not_true true e = cc
not_true false e = refl

pub name_is : (text : List ℕ) → is_name text ≡ true → IsName text
name_is [] e = let bad : false ≡ true = e in absurd (cc)
name_is (b ∷ text) e =
    let h = and_true (list_all is_name_byte (b ∷ text)) (not (bytes_eq (b ∷ text) (45 ∷ 62 ∷ []))) e in
    record { some = omega arith; bytes = h.0; other = not_true (bytes_eq (b ∷ text) (45 ∷ 62 ∷ [])) h.1 }

pub is_named : (text : List ℕ) → IsName text → is_name text ≡ true
is_named [] w = absurd (omega (arith, w.some))
is_named (b ∷ text) w = and-both (list_all is_name_byte (b ∷ text)) (not (bytes_eq (b ∷ text) (45 ∷ 62 ∷ []))) w.bytes (ap not w.other)

-- all bytes pass a test exactly where the run of those that do is as long
pub all_run : (p : ℕ → Bool) (xs : List ℕ) → list_all p xs ≡ true → prefix_len p xs ≡ length xs
all_run p [] e = refl
all_run p (x ∷ xs) e = let h = and_true (p x) (list_all p xs) e in rw h.0 (omega (arith, all_run p xs h.1))

run_all_at : (p : ℕ → Bool) (x : ℕ) (xs : List ℕ) (b : Bool) → p x ≡ b → cond b (1 + prefix_len p xs) 0 ≡ suc (length xs) → (prefix_len p xs ≡ length xs → list_all p xs ≡ true) → list_all p (x ∷ xs) ≡ true
run_all_at p x xs true e n h = and-both (p x) (list_all p xs) e (h (omega arith))
run_all_at p x xs false e n h = absurd (omega arith)

pub run_all : (p : ℕ → Bool) (xs : List ℕ) → prefix_len p xs ≡ length xs → list_all p xs ≡ true
run_all p [] e = refl
run_all p (x ∷ xs) e = run_all_at p x xs (p x) refl e (run_all p xs)

pub full_name : (text : List ℕ) (r : Bool) → 0 < length text → prefix_len is_name_byte text ≡ length text → r ≡ not (bytes_eq text (45 ∷ 62 ∷ [])) → r ≡ is_name text
full_name [] r some e n = absurd (omega arith)
full_name (b ∷ text) r some e n = n ∙ sym (passed (list_all is_name_byte (b ∷ text)) (not (bytes_eq (b ∷ text) (45 ∷ 62 ∷ []))) (run_all is_name_byte (b ∷ text) e))
  where
    passed : (x y : Bool) → x ≡ true → (x && y) ≡ y
    passed true y e = refl
    passed false y e = cc

either : (b : Bool) (c : Bool) → (b ≡ true → c ≡ true → ⊥) → false ≡ (b && c)
either true true h = absurd (h refl refl)
either true false h = refl
either false c h = refl

pub no_name : (text : List ℕ) → (prefix_len is_name_byte text ≡ length text → ⊥) → false ≡ is_name text
no_name [] h = refl
no_name (b ∷ text) h = either (list_all is_name_byte (b ∷ text)) (not (bytes_eq (b ∷ text) (45 ∷ 62 ∷ []))) (λ all _. h (all_run is_name_byte (b ∷ text) all))
