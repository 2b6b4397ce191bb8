use Rattle.std.proofs.Common.{ℕ, ◌≡◌, ◌<◌, length, get_or}
use Rattle.tib_grammar.specs.Run.{rule_at}
use Rattle.tib_normal.specs.Links.{no_key}
use Rattle.tib_normal.specs.Ways.{IsEnd}
use Rattle.tib_normal.proofs.ways.ends_of.Given as goal

abbrev pub invariant-loop-rule : goal.invariant-loop-rule
invariant-loop-rule l = record {
  long : length l.ends.items ≡ l.rule-index;
  each : (n : ℕ) → n < l.rule-index → IsEnd (rule_at l.rules n) (get_or l.ends.items n no_key);
}
