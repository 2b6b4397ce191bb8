use Rattle.std.proofs.Common.{ℕ, ◌<◌}
use Rattle.tib_tree.specs.Trees.{only}
use Rattle.tib_grammar.specs.Sides.{HolesAreLeaves}
use Rattle.tib_grammar.specs.Run.{rule_at}
use Rattle.tib_ranked_trees.proofs.lists.Lists.end_in_states.Given as goal

abbrev pub invariant-loop-rule : goal.invariant-loop-rule
invariant-loop-rule l = (k : ℕ) → k < l.rule-index → HolesAreLeaves (only (rule_at l.self.rules k).right)
