-- The places of the rules of one label and rank.
use Rattle.std.specs.Prelude.{◌≡◌, ℕ, ◌<◌, List, length}
use Rattle.tib_tree.specs.Trees.{count}
use Rattle.tib_grammar.specs.Sides.{label}
use Rattle.tib_grammar.specs.Run.{rule_at}
use Rattle.tib_grammar.specs.declared.Rule.{Rule}

-- the rule at p has the label f over n states
pub record IsRulePlace (rules : List (Rule ℕ)) (f n p : ℕ) : Type 0 where
  pub below : p < length rules
  pub root : (rule_at rules p).right.label ≡ label f
  pub many : count (rule_at rules p).right.kids ≡ n
