-- Variables printed one after another.
use Rattle.std.specs.Prelude.{◌≡◌, ℕ, ◌+◌, ◌<◌, List, [], ◌∷◌, ◌++◌, decimal, refl}
use Rattle.std.proofs.Common.{zero, suc, arith, ap, sym, ◌∙◌, get_or, append_assoc}
use Rattle.tib_grammar.specs.Sides.{leaves}
use Rattle.tib_grammar_file.specs.FileText.{lines_text}
use Rattle.tib_grammar_file.specs.TreeText.{space, trees_text}
use Rattle.tib_transducer.specs.declared.Variable.{Variable}
use Rattle.tib_transducer_file.specs.Printed.{variable_text, symbol_text}
use Rattle.tib_rulewise.specs.Placed.{plain_variable, variables_from}

-- a variable after as many others as its number
abbrev pub shown : Variable → List ℕ
shown x = (space x.number ++ 120 ∷ []) ++ (decimal x.number ++ 58 ∷ [])

pub shown_same : (n many : ℕ) → lines_text shown (variables_from n many) ≡ trees_text (symbol_text (variable_text [] []) []) (leaves (variables_from n many)) n
shown_same n zero = refl
shown_same n (suc many) =
    append_assoc (space n ++ 120 ∷ []) (decimal n ++ 58 ∷ []) (lines_text shown (variables_from (suc n) many))
    ∙ append_assoc (space n) (120 ∷ []) ((decimal n ++ 58 ∷ []) ++ lines_text shown (variables_from (suc n) many))
    ∙ ap (λ (t : List ℕ). space n ++ (120 ∷ ((decimal n ++ 58 ∷ []) ++ t))) (shown_same (suc n) many)

pub variable_at : (n many k : ℕ) (d : Variable) → k < many → get_or (variables_from n many) k d ≡ plain_variable (n + k)
variable_at n zero k d h = absurd (omega (arith, h))
variable_at n (suc many) zero d h = let e : n ≡ n + 0 = omega arith in ap plain_variable e
variable_at n (suc many) (suc k) d h =
    let e : suc n + k ≡ n + suc k = omega arith in
    variable_at (suc n) many k d (omega (arith, h)) ∙ ap plain_variable e

pub variable_in : (many k : ℕ) → k < many → plain_variable k ≡ get_or (variables_from 0 many) k (plain_variable k)
variable_in many k h =
    let e : k ≡ 0 + k = omega arith in
    ap plain_variable e ∙ sym (variable_at 0 many k (plain_variable k) h)
