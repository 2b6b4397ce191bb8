-- Rules by their lines.
use Rattle.tib_cost.specs.declared.Scale.{Scale}
use Rattle.std.specs.Prelude.{◌≡◌, ℕ, ◌<◌, ◌≤◌, List, [], ◌∷◌, ◌++◌, length, take, suc}
use Rattle.std.proofs.Common.{get_or}
use Rattle.tib_grammar.specs.Run.{rule_at}
use Rattle.tib_grammar.specs.declared.Rule.{Rule}
use Rattle.tib_grammar_file.specs.Printed.{rules_text}
use Rattle.tib_cost.specs.Semiring.{most}
use Rattle.tib_canon.specs.Canonical.{line_of}
use Rattle.tib_canon.specs.declared.lines.Line.{Line}

-- the lines of rules as they are printed, one after another, and where each ends
pub record AreTexts (scale : Scale) (names labels : List (List ℕ)) (rules : List (Rule ℕ)) (text ends : List ℕ) : Type 0 where
  pub whole : text ≡ rules_text scale names labels rules
  pub long : length ends ≡ length rules
  pub places : (i : ℕ) → i < length rules → get_or ends i 0 ≡ length (rules_text scale names labels (take (suc i) rules))

-- lines, each with its line feed
abbrev pub lines_text : List Line → List ℕ
lines_text [] = []
lines_text (line ∷ lines) = (line.text.now ++ 10 ∷ []) ++ lines_text lines

-- the left state and the line of the rule at a position
pub record IsLineAt (scale : Scale) (names labels : List (List ℕ)) (rules : List (Rule ℕ)) (line : Line) : Type 0 where
  pub below : line.position < length rules
  pub left : line.left ≡ (rule_at rules line.position).left
  pub text : line.text.now ≡ line_of scale names labels (rule_at rules line.position)
  pub within : (rule_at rules line.position).cost ≤ most
