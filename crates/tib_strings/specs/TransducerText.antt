-- The text of a tree-to-string transducer file, in the words of the format.
use Rattle.tib_cost.specs.declared.Scale.{Scale}
use Rattle.std.specs.Prelude.{◌≤◌, ℕ, List, [], ◌∷◌, length}
use Rattle.tib_lex.specs.Lines.{lines_of}
use Rattle.tib_lex.specs.Lists.{Along, Each}
use Rattle.tib_tree.specs.Grows.{AddsAll}
use Rattle.tib_tree.specs.Trees.{preorder_of, most_nodes}
use Rattle.tib_strings.specs.StringTransducerOf.{StringTransducerOf}
use Rattle.tib_strings.specs.declared.StringRule.{StringRule}
use Rattle.tib_transducer_file.specs.TransducerText.{HaveRulesBy, HaveStartBy}
use Rattle.tib_strings.specs.Listed.{SpellsList}
use Rattle.tib_strings.specs.RuleText.{RuleLine}
use Rattle.tib_strings.specs.RuleValue.{IsRule, states_of}

-- each line has no tokens, or it is the next rule, with a list on the right
abbrev pub HaveRules : Scale → List (List ℕ) → List RuleLine → Type 0
HaveRules scale lines rules = HaveRulesBy SpellsList scale lines rules

-- the first line with tokens is the start, and these rules follow it
abbrev pub HaveStart : Scale → List (List ℕ) → List ℕ → List RuleLine → Type 0
HaveStart scale lines start rules = HaveStartBy SpellsList scale lines start rules

-- The bytes are the text of a transducer: its rules stand for the rule lines, and its states are
-- the start and those of the rules, each once, in the order in which they first occur in the file.
pub record IsStringTransducerText (scale : Scale) (labels : List (List ℕ)) (bytes : List ℕ) (t : StringTransducerOf) : Type 0 where
  pub start : List ℕ
  pub lines : List RuleLine
  pub written : HaveStart scale (lines_of bytes) start lines
  pub states : AddsAll [] (start ∷ states_of lines) t.names
  pub rules : Along (IsRule t.names labels) t.rules lines

-- a left side has 10,000 nodes at most, and a list 10,000 words and pairs
abbrev pub IsSmallRule : StringRule ℕ → Type 0
IsSmallRule rule = (length (preorder_of rule.left) ≤ most_nodes) × (length rule.right ≤ most_nodes)

-- the bytes are the text of this transducer, within these limits
pub record ReadsAs (scale : Scale) (labels : List (List ℕ)) (bytes : List ℕ) (t : StringTransducerOf) : Type 0 where
  pub text : IsStringTransducerText scale labels bytes t
  pub small : Each IsSmallRule t.rules
