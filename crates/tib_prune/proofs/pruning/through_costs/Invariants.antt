use Rattle.std.proofs.Common.{◌≡◌}
use Rattle.std.specs.Prelude.{filter_map, take}
use Rattle.tib_inside.specs.Settling.{costs_in}
use Rattle.tib_prune.specs.Outside.{through}
use Rattle.tib_prune.proofs.pruning.through_costs.Given as goal

abbrev pub invariant-loop-rule : goal.invariant-loop-rule
invariant-loop-rule g l = l.costs.items ≡ filter_map (through g.S.Semiring.product (costs_in l.insides) (costs_in l.outsides)) (take l.rule-index l.rules)
