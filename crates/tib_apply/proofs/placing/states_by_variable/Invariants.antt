use Rattle.std.proofs.Common.{◌≡◌, ◌+◌, ◌<◌, ◌≤◌, ℕ, length, drop, get_or}
use Rattle.tib_grammar.specs.Items.{holes_in}
use Rattle.tib_apply.specs.Backward.{states_at}
use Rattle.tib_apply.proofs.placing.states_by_variable.Given as goal

abbrev pub invariant-loop-i : goal.invariant-loop-i
invariant-loop-i l = record {
  inside : l.i ≤ length l.items;
  long : length l.by_variable.items ≡ l.count;
  left : l.place + length (holes_in (drop l.i l.items)) ≡ length l.states;
  at : (v : ℕ) → v < l.count → get_or l.by_variable.items v (0, 0) ≡ states_at v (holes_in (drop l.i l.items)) (drop l.place l.states);
}

abbrev pub decreases-loop-i : goal.decreases-loop-i
decreases-loop-i l = l.i
