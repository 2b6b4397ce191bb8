use Rattle.std.proofs.Common.{◌≡◌}
use Rattle.std.specs.Prelude.{map, take}
use Rattle.tib_grammar.specs.declared.Rule.{Rule}
use Rattle.std.specs.Prelude.{ℕ}
use Rattle.tib_k_best.proofs.levels.costs_of.Given as goal

abbrev pub invariant-loop-rule : goal.invariant-loop-rule
invariant-loop-rule l = l.costs.items ≡ map (λ (r : Rule ℕ). r.cost) (take l.rule-index l.rules)
