-- Rules whose labels are in a table.
use Rattle.std.specs.Prelude.{◌<◌, ℕ, List, Option, Some, None}
use Rattle.tib_lex.specs.Lists.{Each}
use Rattle.tib_tree.specs.Trees.{preorder_of}
use Rattle.tib_grammar.specs.Sides.{Symbol, label, hole}
use Rattle.tib_transducer.specs.declared.Variable.{Variable}
use Rattle.tib_transducer.specs.declared.Pair.{Pair}
use Rattle.tib_transducer.specs.declared.TransducerRule.{TransducerRule}

-- the label that a variable asks for, if it asks for one, is below n
abbrev pub IsAskedBelow : ℕ → Option ℕ → Type 0
IsAskedBelow n None = Unit {0}
IsAskedBelow n (Some f) = f < n

-- a label is below n, or the one that a variable asks for is
abbrev pub IsBelowOnLeft : ℕ → Symbol ℕ Variable → Type 0
IsBelowOnLeft n (label f) = f < n
IsBelowOnLeft n (hole x) = IsAskedBelow n x.label

-- a label is below n
abbrev pub IsBelowOnRight : ℕ → Symbol ℕ (Pair ℕ) → Type 0
IsBelowOnRight n (label f) = f < n
IsBelowOnRight n (hole x) = Unit {0}

-- the labels of both sides are below n
pub record HasLabelsBelow (n : ℕ) (r : TransducerRule ℕ) : Type 0 where
  pub left : Each (λ s. IsBelowOnLeft n s.0) (preorder_of r.left)
  pub right : Each (λ s. IsBelowOnRight n s.0) (preorder_of r.right)

-- those of all rules are
abbrev pub AreLabelled : ℕ → List (TransducerRule ℕ) → Type 0
AreLabelled n rules = Each (HasLabelsBelow n) rules
