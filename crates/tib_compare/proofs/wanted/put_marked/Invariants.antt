use Rattle.std.proofs.Common.{◌≡◌, ◌++◌}
use Rattle.std.specs.Prelude.{drop, map, filter, ℕ}
use Rattle.tib_grammar.specs.declared.Rule.{Rule}
use Rattle.tib_compare.specs.Beside.{moved}
use Rattle.tib_compare.specs.Wanted.{is_marked}
use Rattle.tib_compare.proofs.wanted.put_marked.Given as goal

abbrev pub invariant-loop-rule : goal.invariant-loop-rule
invariant-loop-rule l =
    l.all.items ++ map (λ (r : Rule ℕ). moved 0 1 l.price r) (filter (is_marked l.marks) (drop l.rule-index l.rules))
    ≡ l.initial.all.items ++ map (λ (r : Rule ℕ). moved 0 1 l.price r) (filter (is_marked l.marks) l.rules)
