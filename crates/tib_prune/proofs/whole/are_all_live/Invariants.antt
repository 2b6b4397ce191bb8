use Rattle.std.proofs.Common.{ℕ, ◌≡◌, ◌<◌}
use Rattle.std.specs.Prelude.{true}
use Rattle.std.specs.Option.{is_some}
use Rattle.tib_grammar.specs.Run.{rule_at}
use Rattle.tib_inside.specs.Settling.{costs_in, rule_total}
use Rattle.tib_prune.proofs.whole.are_all_live.Given as goal

abbrev pub invariant-loop-rule : goal.invariant-loop-rule
invariant-loop-rule g l = (n : ℕ) → n < l.rule-index → is_some (rule_total g.S.Semiring.product (costs_in l.insides) (rule_at l.rules n)) ≡ true
