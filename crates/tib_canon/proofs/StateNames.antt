-- The names q0, q1, q2 and so on are distinct state names.
use Rattle.std.proofs.Common.{◌≡◌, ℕ, ◌+◌, ◌<◌, ◌≤◌, List, [], ◌∷◌, ◌++◌, length, map, refl, ap, sym, ◌∙◌, arith, zero, suc, inl, inr, length-append, add-one, true, false}
use Rattle.std.specs.Prelude.{decimal, nat_eq, nat_lt}
use Rattle.std.specs.Global.{Vec}
use Rattle.std.specs.List.{list_all, list_any}
use Rattle.std.proofs.lemmas.Bool.Decides.{nat_tests}
use Rattle.std.proofs.lemmas.Fmt.{decimal_injective}
use Rattle.std.proofs.lemmas.List.{map-append, length-map}
use Rattle.tib_lex.proofs.Lists.{tail_is}
use Rattle.tib_lex.specs.Bytes.{is_name_byte}
use Rattle.tib_lex.specs.Lists.{Has}
use Rattle.tib_lex.proofs.Spelled.{and_true}
use Rattle.tib_grammar.specs.StateName.{IsStateName, AreStateNames}
use Rattle.tib_grammar_file.specs.Weight.{is_digit}
use Rattle.tib_grammar_file.proofs.PrintedRules.{digits_are, all_changes}
use Rattle.tib_canon.specs.Canonical.{name_of, names_of}
use Rattle.tib_lex.proofs.Members.{has_either, each_more, distinct_more}

digit_is_name : (c : ℕ) → is_digit c ≡ true → is_name_byte c ≡ true
digit_is_name c h = let t = and_true (nat_lt 47 c) (nat_lt c 58) h in grind (arith, nat_tests)

-- no full stop is a digit
pub digit_no_stop : (c : ℕ) → is_digit c ≡ true → nat_eq 46 c ≡ false
digit_no_stop c h = let t = and_true (nat_lt 47 c) (nat_lt c 58) h in grind (arith, nat_tests)

-- nor in digits
pub digits_no_stop : (ds : List ℕ) → list_all is_digit ds ≡ true → list_any (nat_eq 46) ds ≡ false
digits_no_stop [] h = refl
digits_no_stop (d ∷ ds) h =
    let t = and_true (is_digit d) (list_all is_digit ds) h in
    let e : nat_eq 46 d ≡ false = digit_no_stop d t.0 in
    rw e (digits_no_stop ds t.1)

is_state_name : (n : ℕ) → n < 4294967296 → IsStateName (name_of n)
is_state_name n h =
    let digits = digits_are n (omega arith) in
    record {
      is_name = record { some = omega arith; bytes = all_changes is_digit is_name_byte (decimal n) digit_is_name digits; other = refl };
      no_stop = digits_no_stop (decimal n) digits;
    }

has_number : (n : ℕ) (text : List ℕ) → Has (names_of n) text → (m : ℕ) × (m < n) × (text ≡ name_of m)
has_number zero text h = absurd h
has_number (suc n) text h = elim (has_either (names_of n) (name_of n ∷ []) text h) [
  | inl k ↦ let r = has_number n text k in (r.0, omega (arith, r.1), r.2)
  | inr k ↦ elim k [ inl e ↦ (n, omega arith, sym e) | inr a ↦ absurd a ]
]

is_new : (n : ℕ) → n < 4294967296 → Has (names_of n) (name_of n) → ⊥
is_new n h k =
    let r = has_number n (name_of n) k in
    let same : n ≡ r.0 = decimal_injective n r.0 (omega arith) (omega (arith, r.1)) (tail_is r.2) in
    absurd (omega (arith, r.1))

pub length-names_of : (n : ℕ) → length (names_of n) ≡ n
length-names_of zero = refl
length-names_of (suc n) = omega (arith, length-append (names_of n) (name_of n ∷ []), length-names_of n)

pub are_state_names : (n : ℕ) → n ≤ 4294967296 → AreStateNames (names_of n)
are_state_names zero h = record { each = tt; distinct = tt }
are_state_names (suc n) h =
    let before : AreStateNames (names_of n) = are_state_names n (omega arith) in
    record {
      each = each_more IsStateName (names_of n) (name_of n) before.each (is_state_name n (omega arith));
      distinct = distinct_more (names_of n) (name_of n) before.distinct (is_new n (omega arith));
    }

pub length-texts : (texts : List (Vec ℕ)) (n : ℕ) → map (λ (t : Vec ℕ). t.items) texts ≡ names_of n → length texts ≡ n
length-texts texts n is = omega (arith, length-map texts (λ (t : Vec ℕ). t.items), ap length is, length-names_of n)

pub text-more :
    (texts more : List (Vec ℕ)) (text : Vec ℕ) (n : ℕ) → map (λ (t : Vec ℕ). t.items) texts ≡ names_of n → text.items ≡ name_of n →
    more ≡ texts ++ text ∷ [] → map (λ (t : Vec ℕ). t.items) more ≡ names_of (n + 1)
text-more texts more text n old is pushed =
    ap (map (λ (t : Vec ℕ). t.items)) pushed
    ∙ map-append (λ (t : Vec ℕ). t.items) texts (text ∷ [])
    ∙ ap (λ (z : List (List ℕ)). z ++ text.items ∷ []) old
    ∙ ap (λ (z : List ℕ). names_of n ++ z ∷ []) is
    ∙ ap names_of (sym (add-one n))
