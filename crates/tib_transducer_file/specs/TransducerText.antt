-- The text of a transducer file, in the words of the format.
use Rattle.tib_cost.specs.declared.Scale.{Scale}
use Rattle.std.specs.Prelude.{◌≡◌, ◌≤◌, ◌⊎◌, ℕ, false, List, [], ◌∷◌, length}
use Rattle.tib_lex.specs.Grammar.{Word, name, HasWords}
use Rattle.tib_lex.specs.Lines.{lines_of}
use Rattle.tib_lex.specs.Lists.{Along, Each}
use Rattle.tib_tree.specs.Grows.{AddsAll}
use Rattle.tib_tree.specs.Machine.{IsTree}
use Rattle.tib_tree.specs.Trees.{preorder_of, most_nodes}
use Rattle.tib_tree.specs.Written.{Item}
use Rattle.tib_grammar_file.specs.Rule.{has_dot}
use Rattle.tib_grammar_file.specs.Weight.{IsCostOf}
use Rattle.tib_transducer.specs.TransducerOf.{TransducerOf}
use Rattle.tib_transducer.specs.declared.TransducerRule.{TransducerRule}
use Rattle.tib_transducer_file.specs.Pieces.{Piece, HasPieces}
use Rattle.tib_transducer_file.specs.Rule.{Parts, SpellsRuleBy, RuleLine, is_lone, is_twice, has_unknown}
use Rattle.tib_transducer_file.specs.Value.{IsRule, states_of}

-- the tokens of a line are a rule that is written so, whatever its variables and its weight
pub record HasPartsBy (Right : List Word → List Item → Type 0) (line : List ℕ) (p : Parts) : Type 0 where
  pub pieces : List Piece
  pub has : HasPieces pieces line
  pub spells : SpellsRuleBy Right pieces p

-- A rule line: no variable is alone or occurs twice on the left, none on the right is unknown
-- there, and the weight stands for the cost.
pub record SpellsLineBy (Right : List Word → List Item → Type 0) (scale : Scale) (line : List ℕ)
    (rule : RuleLine) : Type 0 where
  pub parts : HasPartsBy Right line rule.parts
  pub some : is_lone rule.parts ≡ false
  pub once : is_twice rule.parts ≡ false
  pub known : has_unknown rule.parts ≡ false
  pub cost : IsCostOf scale rule.parts.weight rule.cost

-- each line has no tokens, or it is the next rule
abbrev pub HaveRulesBy : (List Word → List Item → Type 0) → Scale → List (List ℕ) → List RuleLine → Type 0
HaveRulesBy Right scale [] rules = rules ≡ []
HaveRulesBy Right scale (line ∷ lines) rules =
    (HasWords [] line × HaveRulesBy Right scale lines rules)
    ⊎ ((rule : RuleLine) × (more : List RuleLine) × (rules ≡ rule ∷ more)
    × SpellsLineBy Right scale line rule × HaveRulesBy Right scale lines more)

-- the first line with tokens is the start, a name without a full stop, and the rules follow it
abbrev pub HaveStartBy : (List Word → List Item → Type 0) →
    Scale → List (List ℕ) → List ℕ → List RuleLine → Type 0
HaveStartBy Right scale [] start rules = ⊥
HaveStartBy Right scale (line ∷ lines) start rules =
    (HasWords [] line × HaveStartBy Right scale lines start rules)
    ⊎ (HasWords (name start ∷ []) line × (has_dot start ≡ false)
    × HaveRulesBy Right scale lines rules)

-- these with a tree on the right of each rule
abbrev pub HasParts : List ℕ → Parts → Type 0
HasParts line p = HasPartsBy IsTree line p

abbrev pub SpellsLine : Scale → List ℕ → RuleLine → Type 0
SpellsLine scale line rule = SpellsLineBy IsTree scale line rule

abbrev pub HaveRules : Scale → List (List ℕ) → List RuleLine → Type 0
HaveRules scale lines rules = HaveRulesBy IsTree scale lines rules

abbrev pub HaveStart : Scale → List (List ℕ) → List ℕ → List RuleLine → Type 0
HaveStart scale lines start rules = HaveStartBy IsTree scale lines start rules

-- The bytes are the text of a transducer: its rules stand for the rule lines, and its states are
-- the start and those of the rules, each once, in the order in which they first occur in the file.
pub record TransducerText (scale : Scale) (labels : List (List ℕ)) (bytes : List ℕ) (t : TransducerOf) : Type 0 where
  pub start : List ℕ
  pub lines : List RuleLine
  pub written : HaveStart scale (lines_of bytes) start lines
  pub states : AddsAll [] (start ∷ states_of lines) t.names
  pub rules : Along (IsRule t.names labels) t.rules lines

-- each side has 10,000 nodes at most
abbrev pub IsSmallRule : TransducerRule ℕ → Type 0
IsSmallRule rule = (length (preorder_of rule.left) ≤ most_nodes) × (length (preorder_of rule.right) ≤ most_nodes)

-- the bytes are the text of this transducer, whose sides have 10,000 nodes at most
pub record ReadsAs (scale : Scale) (labels : List (List ℕ)) (bytes : List ℕ) (t : TransducerOf) : Type 0 where
  pub text : TransducerText scale labels bytes t
  pub small : Each IsSmallRule t.rules
