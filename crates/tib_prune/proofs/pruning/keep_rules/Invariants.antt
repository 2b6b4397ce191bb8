use Rattle.std.proofs.Common.{◌≡◌, ◌++◌}
use Rattle.std.specs.Prelude.{filter}
use Rattle.std.specs.Vec.Iter.{into_iter_items}
use Rattle.tib_inside.specs.Settling.{costs_in}
use Rattle.tib_prune.specs.Outside.{through}
use Rattle.tib_prune.specs.Pruned.{is_at_most}
use Rattle.tib_prune.proofs.pruning.keep_rules.Given as goal

abbrev pub invariant-loop-rule : goal.invariant-loop-rule
invariant-loop-rule g l = record {
  whole : l.fn.rules.items ≡ l.yielded ++ into_iter_items l.rule-iterator;
  kept : l.kept.items ≡ filter (λ r. is_at_most (through g.S.Semiring.product (costs_in l.insides) (costs_in l.outsides) r) l.bound) l.yielded;
}
