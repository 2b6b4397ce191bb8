use Rattle.std.proofs.Common.{ℕ, ◌<◌, ◌≤◌, ◌≡◌, ◌-◌}
use Rattle.tib_grammar.specs.Run.{rule_at}
use Rattle.tib_normal.proofs.normal.are_ascending.Given as goal

abbrev pub invariant-loop-rule : goal.invariant-loop-rule
invariant-loop-rule l = record {
  pairs : (m n : ℕ) → m < n → n < l.rule-index → (rule_at l.rules m).left ≤ (rule_at l.rules n).left;
  below : (n : ℕ) → n < l.rule-index → (rule_at l.rules n).left ≤ l.least;
  last : 0 < l.rule-index → (rule_at l.rules (l.rule-index - 1)).left ≡ l.least;
  first : l.rule-index ≡ 0 → l.least ≡ 0;
}
