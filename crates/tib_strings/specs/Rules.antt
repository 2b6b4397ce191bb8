-- The rules of a tree-to-string transducer by position, and the pairs of their right sides.
use Rattle.std.specs.Prelude.{ℕ, List, [], ◌∷◌, map}
use Rattle.std.proofs.Common.{get_or}
use Rattle.tib_tree.specs.Trees.{none}
use Rattle.tib_grammar.specs.Sides.{label}
use Rattle.tib_transducer.specs.declared.Pair.{Pair}
use Rattle.tib_strings.specs.declared.Word.{Word as Token}
use Rattle.tib_strings.specs.declared.Word.TheVariants.{Word, Hole}
use Rattle.tib_strings.specs.declared.StringRule.{StringRule}

-- what is read past the last rule
abbrev pub no_rule : StringRule ℕ
no_rule = record {
  state = 0;
  left = record { label = label 0; kids = none };
  right = [];
  cost = 0;
}

-- the rule at a position, counted from 0
abbrev pub string_rule : List (StringRule ℕ) → ℕ → StringRule ℕ
string_rule rules n = get_or rules n no_rule

-- the pairs of a list, in order
abbrev pub pairs_of : {P : Type 0} → List (Token P) → List (Pair P)
pairs_of [] = []
pairs_of (Word f ∷ ws) = pairs_of ws
pairs_of (Hole x ∷ ws) = x ∷ pairs_of ws

-- the states of these
abbrev pub states_in : {P : Type 0} → List (Token P) → List P
states_in ws = map (λ x. x.state) (pairs_of ws)

-- the numbers of the variables of these
abbrev pub variables_in : {P : Type 0} → List (Token P) → List ℕ
variables_in ws = map (λ x. x.variable) (pairs_of ws)
