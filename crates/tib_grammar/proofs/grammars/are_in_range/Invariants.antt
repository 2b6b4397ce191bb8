use Rattle.std.proofs.Common.{ℕ, ◌<◌}
use Rattle.tib_tree.specs.Trees.{only}
use Rattle.tib_grammar.specs.Sides.{HolesAreLeaves}
use Rattle.tib_grammar.specs.Range.{IsInRange}
use Rattle.tib_grammar.specs.Run.{rule_at}
use Rattle.tib_grammar.proofs.grammars.are_in_range.Given as goal

abbrev pub invariant-loop-rule : goal.invariant-loop-rule
invariant-loop-rule l = record {
  range : (k : ℕ) → k < l.rule-index → IsInRange l.n (rule_at l.rules k);
  leaves : (k : ℕ) → k < l.rule-index → HolesAreLeaves (only (rule_at l.rules k).right);
}
