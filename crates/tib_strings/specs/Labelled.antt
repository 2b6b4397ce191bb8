-- Rules whose labels are in a table.
use Rattle.std.specs.Prelude.{ℕ, List}
use Rattle.tib_lex.specs.Lists.{Each}
use Rattle.tib_tree.specs.Trees.{preorder_of}
use Rattle.tib_strings.specs.declared.StringRule.{StringRule}
pub use Rattle.tib_transducer_file.specs.Labelled.{IsAskedBelow, IsBelowOnLeft, IsBelowOnRight}
use Rattle.tib_strings.specs.RuleValue.{nodes_of}

-- the labels of both sides are below n
pub record HasLabelsBelow (n : ℕ) (r : StringRule ℕ) : Type 0 where
  pub left : Each (λ s. IsBelowOnLeft n s.0) (preorder_of r.left)
  pub right : Each (λ s. IsBelowOnRight n s.0) (nodes_of r.right)

-- those of all rules are
abbrev pub AreLabelled : ℕ → List (StringRule ℕ) → Type 0
AreLabelled n rules = Each (HasLabelsBelow n) rules
