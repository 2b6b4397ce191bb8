use Rattle.std.proofs.Common.{ℕ, ◌≡◌, ◌+◌, ◌<◌, ◌≤◌, length, get_or}
use Rattle.tib_grammar.specs.Run.{rule_at}
use Rattle.tib_trim.specs.Links.{IsNext}
use Rattle.tib_trim.proofs.links.Links.new.Given as goal

abbrev pub invariant-loop-n : goal.invariant-loop-n
invariant-loop-n l = record {
  within : l.n ≤ length l.rules;
  states_long : length l.first.items ≡ l.count;
  rules_long : length l.next.items ≡ length l.rules;
  first_is : (q : ℕ) → q < l.count → IsNext l.rules q l.n (get_or l.first.items q 0);
  next_is : (m : ℕ) → l.n ≤ m → m < length l.rules → IsNext l.rules (rule_at l.rules m).left (m + 1) (get_or l.next.items m 0);
}

abbrev pub decreases-loop-n : goal.decreases-loop-n
decreases-loop-n l = l.n
