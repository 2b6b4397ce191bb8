-- A tree-to-string transducer as its names and rules.
use Rattle.std.specs.Prelude.{◌≡◌, ℕ, List, ◌⊎◌, refl}
use Rattle.std.specs.Coded.{Coded, code_by, coded×, coded⊎, coded_list, coded_ℕ}
use Rattle.std.proofs.Common.{inl, inr}
use Rattle.tib_grammar.specs.Sides.{Side, side_code}
use Rattle.tib_transducer.specs.TransducerOf.{variable_code, pair_code}
use Rattle.tib_transducer.specs.declared.Variable.{Variable}
use Rattle.tib_transducer.specs.declared.Pair.{Pair}
use Rattle.tib_strings.specs.declared.Word.{Word as Token}
use Rattle.tib_strings.specs.declared.Word.TheVariants.{Word, Hole}
use Rattle.tib_strings.specs.declared.StringRule.{StringRule}

-- the names of the states, by number, and the rules over the numbers
pub record StringTransducerOf : Type 0 where
  pub names : List (List ℕ)
  pub rules : List (StringRule ℕ)

-- how words and pairs, rules and transducers are stored
abbrev token_parts : {P : Type 0} → Token P → ℕ ⊎ Pair P
token_parts (Word f) = inl f
token_parts (Hole x) = inr x

abbrev token_from : {P : Type 0} → ℕ ⊎ Pair P → Token P
token_from (inl f) = Word f
token_from (inr x) = Hole x

pub token_back : {P : Type 0} (w : Token P) → token_from (token_parts w) ≡ w
token_back (Word f) = refl
token_back (Hole x) = refl

abbrev pub token_code : {P : Type 0} → Coded P → Coded (Token P)
token_code {P} p = code_by (ℕ ⊎ Pair P) (coded⊎ coded_ℕ (pair_code p)) token_parts token_from token_back

abbrev pub string_rule_code : {P : Type 0} → Coded P → Coded (StringRule P)
string_rule_code {P} p =
    code_by
    (P × (Side ℕ Variable × (List (Token P) × ℕ)))
    (coded× p (coded× (side_code coded_ℕ variable_code) (coded× (coded_list (token_code p)) coded_ℕ)))
    (λ r. (r.state, (r.left, (r.right, r.cost))))
    (λ t. record { state = t.0; left = t.1.0; right = t.1.1.0; cost = t.1.1.1 })
    (λ _. refl)

abbrev pub string_transducer_code : Coded StringTransducerOf
string_transducer_code =
    code_by
    (List (List ℕ) × List (StringRule ℕ))
    (coded× (coded_list (coded_list coded_ℕ)) (coded_list (string_rule_code coded_ℕ)))
    (λ g. (g.names, g.rules))
    (λ p. record { names = p.0; rules = p.1 })
    (λ _. refl)
