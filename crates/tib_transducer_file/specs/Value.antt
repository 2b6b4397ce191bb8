-- What the items of a rule stand for, over the tables of states and labels.
use Rattle.std.specs.Prelude.{◌≡◌, ℕ, List, [], ◌∷◌, ◌++◌, Option, Some, None, slice_get}
use Rattle.tib_lex.specs.Lists.{Along}
use Rattle.tib_tree.specs.Written.{Item}
use Rattle.tib_tree.specs.Nodes.{rank_of}
use Rattle.tib_tree.specs.Trees.{preorder_of}
use Rattle.tib_grammar.specs.Sides.{Symbol, Side, label, hole}
use Rattle.tib_transducer.specs.Range.{AreNumbered}
use Rattle.tib_transducer.specs.Rules.{variables_of}
use Rattle.tib_transducer.specs.declared.Variable.{Variable}
use Rattle.tib_transducer.specs.declared.Pair.{Pair}
use Rattle.tib_transducer.specs.declared.TransducerRule.{TransducerRule}
use Rattle.tib_transducer_file.specs.Forms.{variable_in, pair_in}
use Rattle.tib_transducer_file.specs.Rule.{Parts, RuleLine, state_of, label_of, numbers_in}

-- the label that a variable asks for, if it asks for one
abbrev pub IsAsked : List (List ℕ) → Option ℕ → Option (List ℕ) → Type 0
IsAsked labels None None = Unit {0}
IsAsked labels (Some f) (Some text) = slice_get labels f ≡ Some text
IsAsked labels asked text = ⊥

-- a variable with its label, or a label by its text
abbrev pub IsLeftSymbol : List (List ℕ) → Symbol ℕ Variable → Option (ℕ × Option (List ℕ)) → List ℕ → Type 0
IsLeftSymbol labels (hole x) (Some v) text = IsAsked labels x.label v.1
IsLeftSymbol labels (hole x) None text = ⊥
IsLeftSymbol labels (label f) (Some v) text = ⊥
IsLeftSymbol labels (label f) None text = slice_get labels f ≡ Some text

abbrev pub IsLeftNode : List (List ℕ) → Symbol ℕ Variable × ℕ → Item → Type 0
IsLeftNode labels s i = IsLeftSymbol labels s.0 (variable_in i) i.text × (s.1 ≡ rank_of i.kids)

-- a pair of a state and the place of the number among those of the left side, or a label by its
-- text
abbrev pub IsRightSymbol : List (List ℕ) → List (List ℕ) → List ℕ → Symbol ℕ (Pair ℕ) → Option (List ℕ × ℕ) → List ℕ → Type 0
IsRightSymbol names labels numbers (hole x) (Some q) text = (slice_get names x.state ≡ Some q.0) × (slice_get numbers x.variable ≡ Some q.1)
IsRightSymbol names labels numbers (hole x) None text = ⊥
IsRightSymbol names labels numbers (label f) (Some q) text = ⊥
IsRightSymbol names labels numbers (label f) None text = slice_get labels f ≡ Some text

abbrev pub IsRightNode : List (List ℕ) → List (List ℕ) → List ℕ → Symbol ℕ (Pair ℕ) × ℕ → Item → Type 0
IsRightNode names labels numbers s i = IsRightSymbol names labels numbers s.0 (pair_in i) i.text × (s.1 ≡ rank_of i.kids)

-- the root is a label with this text
abbrev pub IsRootItem : List (List ℕ) → Symbol ℕ Variable × ℕ → List ℕ → Option ℕ → Type 0
IsRootItem labels (label f, rank) text kids = (slice_get labels f ≡ Some text) × (rank ≡ rank_of kids)
IsRootItem labels (hole x, rank) text kids = ⊥

-- the root, and then the other items
abbrev pub IsLeftSide : List (List ℕ) → List (Symbol ℕ Variable × ℕ) → Parts → Type 0
IsLeftSide labels [] p = ⊥
IsLeftSide labels (s ∷ ss) p = IsRootItem labels s (label_of p) p.root.kids × Along (IsLeftNode labels) ss p.below

-- A rule of these parts stands for what its line says, whatever holds the nodes of its right side.
-- Its variables are numbered anew, 0, 1, 2 and so on in preorder of the left side.
pub record IsRuleOf (names labels : List (List ℕ)) (from : ℕ) (reads : Side ℕ Variable)
    (puts : List (Symbol ℕ (Pair ℕ) × ℕ)) (costs : ℕ) (line : RuleLine) : Type 0 where
  pub state : slice_get names from ≡ Some (state_of line.parts)
  pub left : IsLeftSide labels (preorder_of reads) line.parts
  pub numbered : AreNumbered 0 (variables_of reads)
  pub right : Along (IsRightNode names labels (numbers_in line.parts.below)) puts line.parts.right
  pub cost : costs ≡ line.cost

-- with a tree on the right
abbrev pub IsRule : List (List ℕ) → List (List ℕ) → TransducerRule ℕ → RuleLine → Type 0
IsRule names labels rule line =
    IsRuleOf names labels rule.state rule.left (preorder_of rule.right) rule.cost line

-- the parts of a rule, of whatever kind it is
pub record RuleView : Type 0 where
  pub state : ℕ
  pub left : Side ℕ Variable
  pub right : List (Symbol ℕ (Pair ℕ) × ℕ)
  pub cost : ℕ

abbrev pub view_of : ℕ → Side ℕ Variable → List (Symbol ℕ (Pair ℕ) × ℕ) → ℕ → RuleView
view_of state left right cost = record { state = state; left = left; right = right; cost = cost }

abbrev pub IsViewed : List (List ℕ) → List (List ℕ) → RuleView → RuleLine → Type 0
IsViewed names labels v line = IsRuleOf names labels v.state v.left v.right v.cost line

-- a rule stands for its line, by its parts
abbrev pub IsRuleBy : {R : Type 0} → (R → RuleView) →
    List (List ℕ) → List (List ℕ) → R → RuleLine → Type 0
IsRuleBy view names labels rule line = IsViewed names labels (view rule) line

abbrev pub tree_view : TransducerRule ℕ → RuleView
tree_view rule = view_of rule.state rule.left (preorder_of rule.right) rule.cost

-- the text of the label that a node of a right side is, if it is no pair
abbrev pub right_text : Option (List ℕ × ℕ) → List ℕ → List (List ℕ)
right_text None text = text ∷ []
right_text (Some q) text = []

-- the states of some items, and those of lines, from left to right
abbrev pub state_before : Option (List ℕ × ℕ) → List (List ℕ) → List (List ℕ)
state_before None states = states
state_before (Some q) states = q.0 ∷ states

abbrev pub states_in : List Item → List (List ℕ)
states_in [] = []
states_in (i ∷ is) = state_before (pair_in i) (states_in is)

abbrev pub states_of : List RuleLine → List (List ℕ)
states_of [] = []
states_of (line ∷ lines) = state_of line.parts ∷ (states_in line.parts.right ++ states_of lines)
