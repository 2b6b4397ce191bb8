-- The line of the rule of the derivations that begin with a rule of a grammar, as it is printed
-- from that rule alone.
use Rattle.tib_cost.specs.declared.Scale.{Scale}
use Rattle.std.specs.Prelude.{ℕ, List, [], ◌∷◌, ◌++◌, length, decimal}
use Rattle.std.proofs.Common.{get_or}
use Rattle.tib_grammar.specs.Sides.{holes_of, leaves}
use Rattle.tib_grammar.specs.declared.Rule.{Rule}
use Rattle.tib_grammar_file.specs.TreeText.{opening, closing, trees_text}
use Rattle.tib_transducer_file.specs.Printed.{variable_text, pair_text, symbol_text, side_text, end_text}
use Rattle.tib_rulewise.specs.Placed.{placed_side, variables_from}
use Rattle.tib_rulewise.specs.Derivations.{read_from}

-- the right-hand side and the end of the line
abbrev pub right_line : Scale → List (List ℕ) → List (List ℕ) → Rule ℕ → List ℕ
right_line scale names labels r =
    side_text (pair_text names labels) labels (placed_side read_from r.right) ++ end_text scale r.cost

-- the same after an arrow
abbrev pub arrow_line : Scale → List (List ℕ) → List (List ℕ) → Rule ℕ → List ℕ
arrow_line scale names labels r = 32 ∷ (45 ∷ (62 ∷ (32 ∷ []))) ++ right_line scale names labels r

-- so many variables in parentheses, if there are some
abbrev pub below_text : ℕ → List ℕ
below_text many =
    opening many
    ++ (trees_text (symbol_text (variable_text [] []) []) (leaves (variables_from 0 many)) 0 ++ closing many)

-- what follows the root of the left-hand side
abbrev pub below_line : Scale → List (List ℕ) → List (List ℕ) → Rule ℕ → List ℕ
below_line scale names labels r =
    below_text (length (holes_of r.right)) ++ arrow_line scale names labels r

-- what follows the state
abbrev pub root_line : Scale → List (List ℕ) → List (List ℕ) → ℕ → Rule ℕ → List ℕ
root_line scale names labels number r =
    (46 ∷ (114 ∷ []) ++ decimal number) ++ below_line scale names labels r

-- the line
abbrev pub derivation_line : Scale → List (List ℕ) → List (List ℕ) → ℕ → Rule ℕ → List ℕ
derivation_line scale names labels number r =
    get_or names r.left [] ++ root_line scale names labels number r
