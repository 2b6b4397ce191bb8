-- A grammar that is made of what was read.
use Rattle.std.specs.Prelude.{◌≤◌, ℕ, List, [], ◌∷◌, map, length}
use Rattle.tib_tree.specs.Grows.{AddsAll}
use Rattle.tib_grammar.specs.StateName.{AreStateNames}
use Rattle.tib_grammar_file.specs.Rule.{RuleLine}
use Rattle.tib_grammar_file.specs.Value.{left_of}
use Rattle.tib_grammar_file.specs.Resolve.{IsRawGrammarOf}
use Rattle.tib_grammar_file.specs.declared.raw.RawRules.{RawRules}
use Rattle.tib_lex.specs.Limits.{most_bytes}

-- the rules over the tables of names and texts are those of a start and of lines
pub record IsSource (names texts : List (List ℕ)) (raw : RawRules) (start : List ℕ)
    (lines : List RuleLine) : Type 0 where
  pub added : AddsAll [] (start ∷ map left_of lines) names
  pub sound : AreStateNames names
  pub raw_is : IsRawGrammarOf names texts raw lines
  pub few_names : length names ≤ 8388609
  pub few_rules : length lines ≤ most_bytes
