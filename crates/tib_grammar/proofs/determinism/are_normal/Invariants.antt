use Rattle.std.proofs.Common.{ℕ, ◌<◌}
use Rattle.tib_grammar.specs.Forms.{IsNormalSide}
use Rattle.tib_grammar.specs.Run.{rule_at}
use Rattle.tib_grammar.proofs.determinism.are_normal.Given as goal

abbrev pub invariant-loop-rule : goal.invariant-loop-rule
invariant-loop-rule l = (k : ℕ) → k < l.rule-index → IsNormalSide (rule_at l.rules k).right
