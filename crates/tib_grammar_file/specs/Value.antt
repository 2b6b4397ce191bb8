-- What the nodes of a rule stand for, over the tables of states and labels.
use Rattle.std.specs.Prelude.{◌≡◌, ℕ, false, List, [], ◌∷◌, map, Some, None, slice_get, Contains}
use Rattle.tib_tree.specs.Grows.{AddsAll}
use Rattle.tib_lex.specs.Lists.{Along}
use Rattle.tib_tree.specs.Written.{Item}
use Rattle.tib_tree.specs.Nodes.{rank_of}
use Rattle.tib_tree.specs.Trees.{preorder_of}
use Rattle.tib_grammar.specs.Sides.{Symbol, label, hole}
use Rattle.tib_grammar.specs.declared.Rule.{Rule}
use Rattle.tib_grammar.specs.GrammarOf.{GrammarOf}
use Rattle.tib_grammar_file.specs.Rule.{RuleLine}

-- an unquoted leaf that is the name of a state
pub record IsStateLeaf (names : List (List ℕ)) (i : Item) : Type 0 where
  pub plain : i.quoted ≡ false
  pub leaf : i.kids ≡ None
  pub held : Contains names i.text

-- an unquoted leaf is a state if it is the name of one, and all else is a label
abbrev pub IsSymbol : List (List ℕ) → List (List ℕ) → Symbol ℕ ℕ → Item → Type 0
IsSymbol names labels (hole q) i = IsStateLeaf names i × (slice_get names q ≡ Some i.text)
IsSymbol names labels (label f) i = (IsStateLeaf names i → ⊥) × (slice_get labels f ≡ Some i.text)

-- a symbol with its number of children stands for a node
abbrev pub IsNode : List (List ℕ) → List (List ℕ) → Symbol ℕ ℕ × ℕ → Item → Type 0
IsNode names labels p i = IsSymbol names labels p.0 i × (p.1 ≡ rank_of i.kids)

-- a rule stands for what its line says
pub record IsRule (names labels : List (List ℕ)) (rule : Rule ℕ) (line : RuleLine) : Type 0 where
  pub left : slice_get names rule.left ≡ Some line.left
  pub right : Along (IsNode names labels) (preorder_of rule.right) line.nodes
  pub cost : rule.cost ≡ line.cost

abbrev pub left_of : RuleLine → List ℕ
left_of line = line.left

-- a grammar stands for a start and the lines of its rules
pub record IsGrammarOf (labels : List (List ℕ)) (g : GrammarOf) (start : List ℕ)
    (lines : List RuleLine) : Type 0 where
  pub names : AddsAll [] (start ∷ map left_of lines) g.names
  pub rules : Along (IsRule g.names labels) g.rules lines
