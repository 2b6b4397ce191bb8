use Rattle.std.proofs.Common.{◌≡◌, ℕ, ◌<◌, ◌≤◌, ◌-◌, length}
use Rattle.tib_grammar.specs.Run.{rule_at}
use Rattle.tib_count.specs.Counts.{counted}
use Rattle.tib_count.specs.Products.{sum_over, rule_number}
use Rattle.tib_count.specs.Edges.{Leads}
use Rattle.tib_count.specs.Sums.{HasTotal}
use Rattle.tib_count.proofs.sums.state_total.Given as goal

abbrev pub invariant-loop-n : goal.invariant-loop-n
invariant-loop-n l = record {
  within : l.n ≤ length l.rules;
  own : l.n < length l.rules → (rule_at l.rules l.n).left ≡ l.state;
  sum : (number : ℕ → ℕ) → ((p : ℕ) → Leads l.rules l.state p → HasTotal l.totals number p) →
      l.total ≡ counted (sum_over l.rules (rule_number l.rules number) l.state l.n);
}

abbrev pub decreases-loop-n : goal.decreases-loop-n
decreases-loop-n l = length l.rules - l.n
