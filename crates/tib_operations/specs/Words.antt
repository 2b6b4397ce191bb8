-- Tree-to-string transducers whose left-hand sides and costs can be written. What they put out is
-- not written: a grammar is made of what they read.
use Rattle.tib_cost.specs.declared.Scale.{Scale}
use Rattle.std.specs.Prelude.{◌<◌, ℕ, List, length}
use Rattle.tib_tree.specs.Trees.{only}
use Rattle.tib_grammar.specs.Sides.{HolesAreLeaves}
use Rattle.tib_grammar_file.specs.Printable.{IsPlainCost}
use Rattle.tib_strings.specs.Rules.{string_rule}
use Rattle.tib_strings.specs.declared.StringRule.{StringRule}
use Rattle.tib_operations.specs.Moves.{AreLabelsPlain}

-- a rule whose left-hand side, with nothing below a variable, and whose cost can be written over a
-- table of labels
pub record IsPlainWord (scale : Scale) (labels : List (List ℕ)) (r : StringRule ℕ) : Type 0 where
  pub left : AreLabelsPlain labels (only r.left)
  pub ends : HolesAreLeaves (only r.left)
  pub cost : IsPlainCost scale r.cost

-- each of the rules is one
abbrev pub ArePlainWords : Scale → List (List ℕ) → List (StringRule ℕ) → Type 0
ArePlainWords scale labels rules = (m : ℕ) → m < length rules → IsPlainWord scale labels (string_rule rules m)
