-- Which labels need no quotes.
use Rattle.std.proofs.Common.{◌≡◌, ℕ, ◌+◌, ◌-◌, List, [], ◌∷◌, length, take, drop, arith, refl, ap, sym, ◌∙◌, Bool, true, false, Option}
use Rattle.std.specs.Prelude.{Some, None, ◌==◌, cond}
use Rattle.std.proofs.lemmas.List.{take_all, length-drop}
use Rattle.tib_lex.proofs.Quotes.{ne-eqb}
use Rattle.tib_transducer_file.specs.Forms.{number_size, number_of, behind_number, label_behind, ending, variable_of, is_some}
use Rattle.tib_transducer_file.specs.Printed.{is_variable, ends_or_colon}

pub no_variable : (text : List ℕ) (n : ℕ) → n ≡ number_size text → n ≡ 0 → false ≡ is_variable text
unfolding variable_of
no_variable text n e z = let s : number_size text ≡ 0 = sym e ∙ z in rw s refl

ends_by : (number : ℕ) (rest : List ℕ) (c : Bool) → (let one : Option (ℕ × Option (List ℕ)) = Some (number, label_behind rest) in is_some (cond c one None)) ≡ c
ends_by number rest true = refl
ends_by number rest false = refl

ends : (number : ℕ) (text : List ℕ) → is_some (ending number text) ≡ ends_or_colon text
ends number [] = refl
ends number (b ∷ rest) = ends_by number rest (b == 58)

some_variable : (text : List ℕ) → (number_size text == 0) ≡ false → is_variable text ≡ ends_or_colon (behind_number text)
unfolding variable_of
some_variable text ne = rw ne (ends (number_of text) (behind_number text))

pub a_variable : (text rest : List ℕ) (n : ℕ) (r : Bool) → n ≡ number_size text → (n ≡ 0 → ⊥) → rest ≡ drop (n + 1) text → r ≡ ends_or_colon rest → r ≡ is_variable text
a_variable text rest n r e z d h =
    let ne : (number_size text == 0) ≡ false = ne-eqb (number_size text) 0 (λ k. z (e ∙ k)) in
    h ∙ ap ends_or_colon (d ∙ ap (λ (k : ℕ). drop (k + 1) text) e) ∙ sym (some_variable text ne)

-- the end of a text
pub end_of : (text : List ℕ) (k : ℕ) → take (length text - k) (drop k text) ≡ drop k text
end_of text k = take_all (length text - k) (drop k text) (omega (arith, length-drop k text))
