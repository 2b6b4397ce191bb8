use Rattle.std.proofs.Common.{◌≡◌, ◌<◌, ◌≤◌, ℕ, length, get_or}
use Rattle.tib_grammar.specs.Run.{rule_at}
use Rattle.tib_trim.proofs.trimming.set_costs.Given as goal

abbrev pub invariant-loop-rule : goal.invariant-loop-rule
invariant-loop-rule l = record {
  place : l.n ≡ l.rule-index;
  long : length l.rules ≡ length l.fn.rules;
  done : (m : ℕ) → m < l.rule-index → rule_at l.rules m
      ≡ record { left = (rule_at l.fn.rules m).left; right = (rule_at l.fn.rules m).right; cost = get_or l.costs m 0 };
  same : (m : ℕ) → l.rule-index ≤ m → rule_at l.rules m ≡ rule_at l.fn.rules m;
}
