use Rattle.std.proofs.Common.{◌≡◌, length, take}
use Rattle.std.specs.List.{AllZip}
use Rattle.tib_grammar.specs.Series.{IsSeries}
use Rattle.tib_weigh.specs.Found.{IsBlank}
use Rattle.tib_weigh.proofs.weighing.weigh_each.Given as goal

abbrev pub invariant-loop-tree : goal.invariant-loop-tree
invariant-loop-tree g l = record {
  blank : IsBlank l.room.found;
  long : length l.room.found.costs.items ≡ length l.normal.names;
  zipped : AllZip (λ t v. IsSeries g.S.Semiring.product l.normal.rules t v) (take l.tree-index l.trees) l.costs.items;
}
