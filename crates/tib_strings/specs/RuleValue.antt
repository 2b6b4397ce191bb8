-- What the items of a rule stand for, over the tables of states and labels.
use Rattle.std.specs.Prelude.{◌≡◌, ℕ, List, None, map}
use Rattle.tib_tree.specs.Written.{Item}
use Rattle.tib_tree.specs.declared.shape.Place.{Place}
use Rattle.tib_grammar.specs.Items.{pair_of, pairs_of}
use Rattle.tib_grammar.specs.Sides.{Symbol}
use Rattle.tib_grammar.specs.declared.Item.{Item as SideItem}
use Rattle.tib_grammar.specs.declared.Item.TheVariants as sides
use Rattle.tib_strings.specs.declared.Word.{Word as Token}
use Rattle.tib_strings.specs.declared.Word.TheVariants.{Word, Hole}
use Rattle.tib_strings.specs.declared.StringRule.{StringRule}
use Rattle.tib_transducer.specs.declared.Pair.{Pair}
pub use Rattle.tib_transducer_file.specs.Value.{IsAsked, IsLeftSymbol, IsLeftNode, IsRightSymbol, IsRightNode, IsRootItem, IsLeftSide, state_before, states_in, states_of}
use Rattle.tib_transducer_file.specs.Rule.{RuleLine}
use Rattle.tib_transducer_file.specs.Value.{IsRuleOf, RuleView, view_of}

-- a word or a pair as a leaf of a tree
abbrev pub leaf_of : {P : Type 0} → Token P → SideItem (Pair P)
leaf_of (Word f) = sides.Label f 0
leaf_of (Hole x) = sides.Hole x

abbrev pub node_of : {P : Type 0} → Token P → Symbol ℕ (Pair P) × ℕ
node_of w = pair_of (leaf_of w)

abbrev pub nodes_of : {P : Type 0} → List (Token P) → List (Symbol ℕ (Pair P) × ℕ)
nodes_of ws = pairs_of (map leaf_of ws)

-- any items are those of a list
abbrev pub AreAnyItems : List Item → Type 0
AreAnyItems items = Unit {0}

-- a place of a list has no children
abbrev pub IsLeaf : Place → Type 0
IsLeaf p = p.kids ≡ None

-- A rule stands for what its line says. Its variables are numbered anew, 0, 1, 2 and so on in
-- preorder of the left side.
abbrev pub IsRule : List (List ℕ) → List (List ℕ) → StringRule ℕ → RuleLine → Type 0
IsRule names labels rule line =
    IsRuleOf names labels rule.state rule.left (nodes_of rule.right) rule.cost line

-- the parts of a rule
abbrev pub string_view : StringRule ℕ → RuleView
string_view rule = view_of rule.state rule.left (nodes_of rule.right) rule.cost
