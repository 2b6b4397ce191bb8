-- A rule line of a tree-to-string transducer file: that of a transducer file, with a list of words
-- and pairs on the right. The words and pairs are items of `Parts` without children.
use Rattle.tib_cost.specs.declared.Scale.{Scale}
use Rattle.std.specs.Prelude.{ℕ, List, Option, Result}
use Rattle.tib_lex.specs.declared.fault.FaultKind.{FaultKind}
use Rattle.tib_transducer_file.specs.Pieces.{Piece}
use Rattle.tib_transducer_file.specs.Rule.{SpellsRuleBy, rule_line_by}
pub use Rattle.tib_transducer_file.specs.Rule.{Parts, RuleLine}
use Rattle.tib_strings.specs.Listed.{SpellsList, list_in}

-- THE MEANING: these tokens are a left side, an arrow, a list, and maybe a hash and a weight. No
-- token of the list is a variable of a left side.
abbrev pub SpellsRule : List Piece → Parts → Type 0
SpellsRule pieces p = SpellsRuleBy SpellsList pieces p

-- no tokens, or a rule, or the first fault of the line
abbrev pub rule_line : Scale → List ℕ → Result (Option RuleLine) FaultKind
rule_line scale line = rule_line_by list_in scale line
