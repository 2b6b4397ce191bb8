use Rattle.std.proofs.Common.{◌≡◌, map, take}
use Rattle.tib_rulewise.specs.Inverse.{inverse_rule}
use Rattle.tib_rulewise.proofs.from_transducer.inverse_rules.Given as goal

abbrev pub invariant-loop-rule : goal.invariant-loop-rule
invariant-loop-rule l = l.inverses.items ≡ map inverse_rule (take l.rule-index l.rules)
