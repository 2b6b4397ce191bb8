use Rattle.std.proofs.Common.{length, ℕ, ◌<◌, ◌≤◌, ◌≡◌, get_or}
use Rattle.tib_grammar.specs.Run.{rule_at}
use Rattle.tib_normal.specs.Index.{IsStart}
use Rattle.tib_normal.proofs.index.starts_of.Given as goal

abbrev pub invariant-loop-q : goal.invariant-loop-q
invariant-loop-q l = record {
  within : l.place ≤ length l.rules;
  before : (m : ℕ) → m < l.place → (rule_at l.rules m).left < l.q;
  long : length l.starts.items ≡ l.q;
  each : (p : ℕ) → p < l.q → IsStart l.rules p (get_or l.starts.items p 0);
}
