-- What a file holds that was read, whatever the right sides of its rules are, and whatever is made
-- of them.
use Rattle.tib_cost.specs.declared.Scale.{Scale}
use Rattle.std.specs.Prelude.{◌≡◌, ℕ, true, false, List, [], ◌∷◌}
use Rattle.tib_lex.specs.Grammar.{Word}
use Rattle.tib_lex.specs.Lines.{lines_of}
use Rattle.tib_lex.specs.Lists.{Along, Each}
use Rattle.tib_tree.specs.Grows.{AddsAll}
use Rattle.tib_tree.specs.Written.{Item}
use Rattle.tib_grammar.specs.StateName.{IsStateName}
use Rattle.tib_transducer_file.specs.Rule.{RuleLine, has_many, has_state}
use Rattle.tib_transducer_file.specs.Value.{states_of}
use Rattle.tib_transducer_file.specs.TransducerText.{HaveStartBy}

-- lines that are read within the limits, and whose root has a state
abbrev pub IsFew : RuleLine → Type 0
IsFew line = has_many line.parts ≡ false

abbrev pub IsNamed : RuleLine → Type 0
IsNamed line = has_state line.parts.root ≡ true

-- a start line, and these after it
pub record FileHeld (Right : List Word → List Item → Type 0) (scale : Scale)
    (lines : List (List ℕ)) (start : List ℕ) (rules : List RuleLine) : Type 0 where
  pub have : HaveStartBy Right scale lines start rules
  pub few : Each IsFew rules
  pub named : Each IsNamed rules
  pub name : IsStateName start

-- a file was read: its states, each once, in the order in which they first occur in it, and its
-- rules
pub record FileReadBy (Right : List Word → List Item → Type 0) {R : Type 0}
    (Is : List (List ℕ) → List (List ℕ) → R → RuleLine → Type 0) (scale : Scale)
    (bytes : List ℕ) (names labels : List (List ℕ)) (rules : List R) : Type 0 where
  pub start : List ℕ
  pub lines : List RuleLine
  pub held : FileHeld Right scale (lines_of bytes) start lines
  pub added : AddsAll [] (start ∷ states_of lines) names
  pub rules_are : Along (Is names labels) rules lines
