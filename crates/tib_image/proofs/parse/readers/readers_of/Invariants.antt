use Rattle.std.proofs.Common.{◌≡◌, map, take}
use Rattle.tib_image.specs.Restrictions.{as_rule}
use Rattle.tib_image.proofs.parse.readers.readers_of.Given as goal

abbrev pub invariant-loop-rule : goal.invariant-loop-rule
invariant-loop-rule l = l.readers.items ≡ map as_rule (take l.rule-index l.rules)
