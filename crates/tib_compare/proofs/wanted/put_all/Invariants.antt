use Rattle.std.proofs.Common.{◌≡◌, ◌+◌, ◌++◌}
use Rattle.std.specs.Prelude.{drop, map, ℕ}
use Rattle.tib_grammar.specs.declared.Rule.{Rule}
use Rattle.tib_compare.specs.Beside.{moved}
use Rattle.tib_compare.proofs.wanted.put_all.Given as goal

abbrev pub invariant-loop-rule : goal.invariant-loop-rule
invariant-loop-rule l =
    l.all.items ++ map (λ (r : Rule ℕ). moved (1 + r.left) 1 l.price r) (drop l.rule-index l.rules)
    ≡ l.initial.all.items ++ map (λ (r : Rule ℕ). moved (1 + r.left) 1 l.price r) l.rules
