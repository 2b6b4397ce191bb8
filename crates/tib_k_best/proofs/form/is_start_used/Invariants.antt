use Rattle.std.proofs.Common.{ℕ, ◌<◌}
use Rattle.tib_lex.specs.Lists.{Has}
use Rattle.tib_grammar.specs.Sides.{holes_of}
use Rattle.tib_grammar.specs.Run.{rule_at}
use Rattle.tib_k_best.proofs.form.is_start_used.Given as goal

abbrev pub invariant-loop-rule : goal.invariant-loop-rule
invariant-loop-rule l = (k q : ℕ) → k < l.rule-index → Has (holes_of (rule_at l.rules k).right) q → Has l.states.items q
