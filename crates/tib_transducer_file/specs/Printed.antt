-- A transducer as it is printed.
use Rattle.tib_cost.specs.declared.Scale.{Scale}
use Rattle.std.specs.Prelude.{ℕ, Bool, true, ◌&&◌, ◌==◌, not, List, [], ◌∷◌, ◌++◌, decimal, Option, Some, None, if◌then◌else◌}
use Rattle.std.proofs.Common.{get_or}
use Rattle.tib_lex.specs.Grammar.{is_name, label, spelling}
use Rattle.tib_grammar.specs.Sides.{Symbol, Side}
use Rattle.tib_grammar_file.specs.FileText.{lines_text}
use Rattle.tib_grammar_file.specs.Printed.{cost_text}
use Rattle.tib_grammar_file.specs.Rule.{has_dot}
use Rattle.tib_grammar_file.specs.TreeText.{symbol_text as written_symbol, side_text as written_side}
pub use Rattle.tib_grammar_file.specs.TreeText.{trees_text}
use Rattle.tib_transducer.specs.TransducerOf.{TransducerOf}
use Rattle.tib_transducer.specs.declared.Variable.{Variable}
use Rattle.tib_transducer.specs.declared.Pair.{Pair}
use Rattle.tib_transducer.specs.declared.TransducerRule.{TransducerRule}
use Rattle.tib_transducer_file.specs.Forms.{variable_of, is_some}

-- a text that reads as a variable, maybe with the label that it asks for
abbrev pub is_variable : List ℕ → Bool
is_variable text = is_some (variable_of text)

-- the same by its bytes: nothing comes after x and the digits, or a colon
abbrev pub ends_or_colon : List ℕ → Bool
ends_or_colon [] = true
ends_or_colon (b ∷ rest) = b == 58

-- A label that reads as one without quotes: a name without a full stop that is no variable.
abbrev pub is_plain : List ℕ → Bool
is_plain text = is_name text && (not (has_dot text) && not (is_variable text))

-- a label's text, in quotes where it would read as something else
abbrev pub label_text : List ℕ → List ℕ
label_text text = if is_plain text then text else spelling (label text)

-- the label that a variable asks for, if it asks for one
abbrev pub asked_text : List (List ℕ) → Option ℕ → List ℕ
asked_text labels None = []
asked_text labels (Some f) = label_text (get_or labels f [])

-- a variable on the left: x, its number, a colon, and the label that it asks for
abbrev pub variable_text : List (List ℕ) → List (List ℕ) → Variable → List ℕ
variable_text names labels x =
    120 ∷ [] ++ (decimal x.number ++ (58 ∷ [] ++ asked_text labels x.label))

-- a pair on the right: a state, a full stop, x, and the variable's number
abbrev pub pair_text : List (List ℕ) → List (List ℕ) → Pair ℕ → List ℕ
pair_text names labels x = get_or names x.state [] ++ (46 ∷ (120 ∷ []) ++ decimal x.variable)

-- a label or a leaf
abbrev pub symbol_text : {P : Type 0} → (P → List ℕ) → List (List ℕ) → Symbol ℕ P → List ℕ
symbol_text leaf labels = written_symbol label_text leaf labels

-- a side
abbrev pub side_text : {P : Type 0} → (P → List ℕ) → List (List ℕ) → Side ℕ P → List ℕ
side_text leaf labels = written_side (symbol_text leaf labels)

-- the cost of a rule and the end of its line
abbrev pub end_text : Scale → ℕ → List ℕ
end_text scale cost = cost_text scale cost ++ 10 ∷ []

-- a rule after its left side, and after its state
abbrev pub right_text : Scale → List (List ℕ) → List (List ℕ) → TransducerRule ℕ → List ℕ
right_text scale names labels r =
    side_text (pair_text names labels) labels r.right ++ end_text scale r.cost

abbrev pub left_text : Scale → List (List ℕ) → List (List ℕ) → TransducerRule ℕ → List ℕ
left_text scale names labels r =
    side_text (variable_text names labels) labels r.left ++ (32 ∷ (45 ∷ (62 ∷ (32 ∷ []))) ++ right_text scale names labels r)

-- The line of a rule: its state, a full stop, the left side, an arrow, the right side, and where
-- costs are weighed a hash and the weight.
abbrev pub rule_text : Scale → List (List ℕ) → List (List ℕ) → TransducerRule ℕ → List ℕ
rule_text scale names labels r =
    get_or names r.state [] ++ (46 ∷ [] ++ left_text scale names labels r)

abbrev pub rules_text : Scale → List (List ℕ) → List (List ℕ) → List (TransducerRule ℕ) → List ℕ
rules_text scale names labels = lines_text (rule_text scale names labels)

-- THE TEXT: the start's line, and then a line for each rule.
abbrev pub transducer_text : Scale → List (List ℕ) → TransducerOf → List ℕ
transducer_text scale labels t =
    (get_or t.names 0 [] ++ 10 ∷ []) ++ rules_text scale t.names labels t.rules
