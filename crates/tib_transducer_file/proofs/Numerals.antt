-- Printed numbers are read back: those of variables, and weights.
use Rattle.tib_cost.specs.Scale.{weight_in, weight_within, cost_of_weight}
use Rattle.tib_cost.specs.Semiring.{most}
use Rattle.tib_cost.specs.declared.Scale.{Scale}
use Rattle.std.proofs.Common.{◌≡◌, ℕ, ◌<◌, ◌≤◌, Bool, true, false, List, [], ◌∷◌, ◌++◌, length, refl, sym, subst, append-nil, arith}
use Rattle.std.specs.Prelude.{None, decimal as printed}
use Rattle.std.specs.List.{list_all}
use Rattle.std.specs.Str.{bytes_eq}
use Rattle.std.proofs.lemmas.Fmt.{digits_value-decimal, decimal_nonempty, length-decimal-le}
use Rattle.tib_lex.specs.Bytes.{is_name_byte}
use Rattle.tib_lex.specs.Grammar.{hash, name, IsName, HasWords}
use Rattle.tib_lex.proofs.HasWords.{after_space, has_first_word, no_words}
use Rattle.tib_grammar_file.specs.Printed.{weight_text}
use Rattle.tib_grammar_file.specs.Rule.{weight_words}
use Rattle.tib_grammar_file.specs.Weight.{is_digit, decimal, IsWhole, IsWeighed}
use Rattle.tib_grammar_file.proofs.PrintedRules.{all_changes, digits_are, numerals, name_byte, no_arrow, weight_if}

-- the number of a variable has one to nine digits, which are name bytes
pub record IsNumeral (n : ℕ) : Type 0 where
  pub some : 0 < length (printed n)
  pub few : length (printed n) < 10
  pub digits : list_all is_digit (printed n) ≡ true
  pub bytes : list_all is_name_byte (printed n) ≡ true
  pub value : decimal (printed n) ≡ n

pub is_numeral : (n : ℕ) → n < 1000000000 → IsNumeral n
is_numeral n h =
    let within : n ≤ most = omega arith in
    let short : length (printed n) ≤ 9 = length-decimal-le 9 n (omega arith) (omega arith) (omega arith) in
    record {
      some = decimal_nonempty n (omega arith);
      few = omega arith;
      digits = digits_are n within;
      bytes = all_changes is_digit is_name_byte (printed n) name_byte (digits_are n within);
      value = digits_value-decimal numerals n (omega arith);
    }

weight_is_name : (n : ℕ) → n ≤ most → IsName (printed n)
weight_is_name n h = record {
  some = decimal_nonempty n (omega arith);
  bytes = all_changes is_digit is_name_byte (printed n) name_byte (digits_are n h);
  other = no_arrow (bytes_eq (printed n) (45 ∷ 62 ∷ [])) (printed n) refl (digits_are n h);
}

weight_is_whole : (n : ℕ) → n ≤ most → IsWhole (printed n) n
weight_is_whole n h = record {
  digits = printed n;
  zeros = None;
  some = decimal_nonempty n (omega arith);
  are_digits = digits_are n h;
  are_zeros = tt;
  spelled = sym (append-nil (printed n));
  value = sym (digits_value-decimal numerals n (omega arith));
}

words_if : (w : Bool) (cost : ℕ) → (w ≡ true → cost ≤ most) → HasWords (weight_words (weight_if w cost)) (weight_text w cost)
words_if false cost h = no_words
words_if true cost within =
    let h : cost ≤ most = within refl in
    let digits : HasWords (name (printed cost) ∷ []) (printed cost ++ []) = has_first_word (name (printed cost)) [] [] (weight_is_name cost h) refl no_words in
    let alone : HasWords (name (printed cost) ∷ []) (printed cost) = subst (λ (l : List ℕ). HasWords (name (printed cost) ∷ []) l) (append-nil (printed cost)) digits in
    let behind : HasWords (name (printed cost) ∷ []) (32 ∷ printed cost) = after_space (name (printed cost) ∷ []) (printed cost) alone in
    after_space (hash ∷ (name (printed cost) ∷ [])) (35 ∷ (32 ∷ printed cost)) (has_first_word hash (name (printed cost) ∷ []) (32 ∷ printed cost) tt tt behind)

cost_read : (scale : Scale) (cost : ℕ) → cost ≤ most → IsWeighed scale (printed (weight_in scale cost)) cost
cost_read scale cost h = record {
  weight = weight_in scale cost;
  whole = weight_is_whole (weight_in scale cost) (weight_within scale cost h);
  within = weight_within scale cost h;
  cost_is = sym (cost_of_weight scale cost h);
}
