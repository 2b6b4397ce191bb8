use Rattle.std.proofs.Common.{arith, ◌≡◌, ◌≢◌, ◌∙◌, ◌<◌, ◌≤◌, ◌^◌, ℕ, Bool, true, false, length, List, [], ◌∷◌, ◌++◌, Some, None, Result, Ok, Err, refl, sym, ap, le-leb, leb-true, get_or}
use Rattle.std.specs.Prelude.{nat_le}
use Rattle.std.specs.Result.{OkIff, result_ok}
use Rattle.std.specs.Str.{all_ascii_digits}
use Rattle.std.specs.Str.Parse.{digits_value}
use Rattle.std.proofs.lemmas.Str.Parse.{IsNumeralModel, numerals_by_value, tells_all_ascii_digits, digits_value_short, parse_plain}
use Rattle.clap.proofs.WalkLemmas.{both}
use Rattle.std.specs.Char.{encode_utf8}
use Rattle.std.proofs.lemmas.Str.{encode_ascii}
use Rattle.tib_command.specs.Jobs.{numeral_in, is_numeral}
use Rattle.tib_command.specs.Words.{Text}
use Rattle.tib_command.proofs.values.numeral_in.Goals as goal

own : IsNumeralModel (λ ds. all_ascii_digits ds ≡ true) (digits_value 10)
own = numerals_by_value _ tells_all_ascii_digits

numeral_parsed : {E : Type 0} (digits : ℕ) (text : Text) (r : Result ℕ E) → OkIff r ((all_ascii_digits text ≡ true) × (0 < length text) × (digits_value 10 text < 2 ^ 64)) (digits_value 10 text) → digits ≤ 16 → length text ≤ digits
    → result_ok r ≡ numeral_in digits text
numeral_parsed digits text (Ok n) h low short =
    let some : nat_le 1 (length text) ≡ true = le-leb 1 (length text) (omega (arith, h.0.1)) in
    let few : nat_le (length text) digits ≡ true = le-leb (length text) digits short in
    let written : all_ascii_digits text ≡ true = h.0.0 in
    rw (some, few, written) (ap Some h.1)
numeral_parsed digits text (Err e) h low short = go (is_numeral digits text) refl
  where
    go : (b : Bool) → is_numeral digits text ≡ b → None ≡ numeral_in digits text
    go false e = rw e refl
    go true e =
        let p = both _ _ e in
        let q = both _ _ p.1 in
        absurd (h (q.1, leb-true 1 (length text) p.0, omega (arith, digits_value_short own text 16 q.1 (omega (arith, low, short)))))

no_plus : (text : Text) → ((rest : List ℕ) → text ≡ encode_utf8 43 ++ rest → ⊥) → get_or text 0 0 ≢ 43
no_plus [] h e = absurd (omega (arith, e))
no_plus (x ∷ xs) h e = h xs (ap (λ y. y ∷ xs) e ∙ sym (ap (λ bs. bs ++ xs) (encode_ascii 43 (omega arith))))

pub returns : goal.returns
returns c =
    let plain : get_or c.args.text.now 0 0 ≢ 43 = no_plus c.args.text.now c.if-starts_with.ensures.cases in
    c.ok.ensures.value ∙ numeral_parsed c.args.digits c.args.text.now c.parse.result (parse_plain own 64 c.args.text.now c.parse.result c.parse.ensures.value.0 plain) c.requires (omega arith)
