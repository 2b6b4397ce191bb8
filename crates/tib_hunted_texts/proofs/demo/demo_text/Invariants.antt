use Rattle.std.proofs.Common.{◌≡◌, ◌++◌, codes, decimal}
use Rattle.tib_operations.specs.Demo.{first_rules, steps_text}
use Rattle.tib_hunted_texts.proofs.demo.demo_text.Given as goal

abbrev pub invariant-loop-before : goal.invariant-loop-before
invariant-loop-before l = l.text.bytes ≡ (codes "p" ++ decimal l.n ++ codes "\n") ++ (first_rules ++ steps_text l.before)
