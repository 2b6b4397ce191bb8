use Rattle.std.proofs.Common.{ℕ, ◌<◌, map}
use Rattle.std.specs.Prelude.{◌≡◌, nat_eq}
use Rattle.tib_grammar.specs.Run.{rule_at}
use Rattle.tib_k_best.specs.Apart.{AreNoted}
use Rattle.tib_k_best.proofs.form.are_apart.Given as goal

abbrev pub invariant-loop-rule : goal.invariant-loop-rule
invariant-loop-rule l = AreNoted l.rules l.of_start (map (λ s. s.now) l.sides.keys) l.rule-index
