-- The text of a grammar file, in the terms of the format.
use Rattle.tib_cost.specs.declared.Scale.{Scale}
use Rattle.std.specs.Prelude.{◌≡◌, ◌≤◌, ℕ, ◌⊎◌, Bool, false, List, [], ◌∷◌, ◌++◌, map, length, Option, Some, slice_get, Contains}
use Rattle.tib_lex.specs.Grammar.{Word, name, arrow, HasWords}
use Rattle.tib_lex.specs.Line.{text_of}
use Rattle.tib_lex.specs.Lines.{HasLines}
use Rattle.tib_lex.specs.Lists.{Along, Each}
use Rattle.tib_tree.specs.Grows.{AddsAll}
use Rattle.tib_tree.specs.Trees.{Trees, none, tree, only, preorder_of, most_nodes}
use Rattle.tib_tree.specs.Written.{Written, end, leaf, head, spell}
use Rattle.tib_grammar.specs.Sides.{Symbol, label, hole}
use Rattle.tib_grammar.specs.GrammarOf.{GrammarOf}
use Rattle.tib_grammar.specs.declared.Rule.{Rule}
use Rattle.tib_grammar_file.specs.Rule.{has_dot, weight_words}
use Rattle.tib_grammar_file.specs.Weight.{IsCostOf}

-- the tokens of the lines that have any, line by line
abbrev pub HaveTokens : List (List ℕ) → List (List Word) → Type 0
HaveTokens [] rows = rows ≡ []
HaveTokens (line ∷ lines) rows =
    (HasWords [] line × HaveTokens lines rows)
    ⊎ ((word : Word) × (words : List Word) × (more : List (List Word)) × HasWords (word ∷ words) line × (rows ≡ (word ∷ words) ∷ more) × HaveTokens lines more)

-- a leaf without quotes is a state if it is the name of one, and every other leaf is a label
abbrev pub IsLeaf : List (List ℕ) → List (List ℕ) → Symbol ℕ ℕ → Bool → List ℕ → Type 0
IsLeaf names labels (hole q) quoted text = (quoted ≡ false) × (slice_get names q ≡ Some text)
IsLeaf names labels (label f) quoted text =
    (quoted ≡ false → Contains names text → ⊥) × (slice_get labels f ≡ Some text)

-- a head is a label
abbrev pub IsHead : List (List ℕ) → Symbol ℕ ℕ → List ℕ → Type 0
IsHead labels (hole q) text = ⊥
IsHead labels (label f) text = slice_get labels f ≡ Some text

-- trees are what is written, with the numbers of states and labels for their texts
abbrev pub Means : List (List ℕ) → List (List ℕ) → Trees (Symbol ℕ ℕ) → Written → Type 0
Means names labels none end = Unit {0}
Means names labels none (leaf quoted text more) = ⊥
Means names labels none (head quoted text below more) = ⊥
Means names labels (tree s kids rest) end = ⊥
Means names labels (tree s kids rest) (leaf quoted text more) =
    IsLeaf names labels s quoted text × (kids ≡ none) × Means names labels rest more
Means names labels (tree s kids rest) (head quoted text below more) =
    IsHead labels s text × Means names labels kids below × Means names labels rest more

-- A rule line: a name without a full stop, an arrow, one tree, and maybe a hash and a weight. It
-- means a rule.
pub record SpellsRuleOf (scale : Scale) (names labels : List (List ℕ)) (words : List Word)
    (rule : Rule ℕ) : Type 0 where
  pub left : List ℕ
  pub right : Written
  pub weight : Option (List ℕ)
  pub words_are : name left ∷ (arrow ∷ (spell right ++ weight_words weight)) ≡ words
  pub plain : has_dot left ≡ false
  pub left_is : slice_get names rule.left ≡ Some left
  pub right_is : Means names labels (only rule.right) right
  pub cost_is : IsCostOf scale weight rule.cost

-- the text of the first token
abbrev pub first_text : List Word → List ℕ
first_text [] = []
first_text (word ∷ words) = text_of word

-- The bytes are the text of a grammar: the lines with tokens are the start line, a name without a
-- full stop, and a line for each rule. The states are the start and the left states, each once in
-- the order of first sight.
pub record GrammarText (scale : Scale) (labels : List (List ℕ)) (bytes : List ℕ)
    (g : GrammarOf) : Type 0 where
  pub lines : List (List ℕ)
  pub start : List ℕ
  pub rows : List (List Word)
  pub lines_are : HasLines lines bytes
  pub tokens : HaveTokens lines ((name start ∷ []) ∷ rows)
  pub plain : has_dot start ≡ false
  pub states : AddsAll [] (start ∷ map first_text rows) g.names
  pub rules : Along (SpellsRuleOf scale g.names labels) rows g.rules

-- each right-hand side has 10,000 nodes at most
abbrev pub IsSmallRule : Rule ℕ → Type 0
IsSmallRule rule = length (preorder_of rule.right) ≤ most_nodes

abbrev pub AreSmallRules : List (Rule ℕ) → Type 0
AreSmallRules rules = Each IsSmallRule rules
