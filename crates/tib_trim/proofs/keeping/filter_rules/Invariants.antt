use Rattle.std.proofs.Common.{◌≡◌, ◌++◌}
use Rattle.std.specs.Vec.Iter.{into_iter_items}
use Rattle.tib_trim.specs.Keeping.{AreFiltered}
use Rattle.tib_trim.proofs.keeping.filter_rules.Given as goal

abbrev pub invariant-loop-rule : goal.invariant-loop-rule
invariant-loop-rule g l = record {
  whole : l.fn.rules.items ≡ l.yielded ++ into_iter_items l.rule-iterator;
  kept : AreFiltered g.S.Semiring.product l.insides l.outsides l.yielded l.kept.items l.costs.items;
}
