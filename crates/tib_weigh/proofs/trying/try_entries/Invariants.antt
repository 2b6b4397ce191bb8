use Rattle.std.proofs.Common.{◌≡◌, length, take}
use Rattle.tib_weigh.specs.Found.{cost_of, IsNoted}
use Rattle.tib_weigh.specs.Tables.{bucket}
use Rattle.tib_weigh.specs.Vectors.{vectors}
use Rattle.tib_weigh.specs.Worth.{worth, IsRemembered, HasTriedAll}
use Rattle.tib_weigh.proofs.trying.try_entries.Given as goal

abbrev pub invariant-loop-entry : goal.invariant-loop-entry
invariant-loop-entry g l = record {
  last : IsRemembered g.S.Semiring.product l.at.rules.now l.at.place (vectors l.at.stack.now) l.last;
  noted : IsNoted l.found;
  long : length l.found.costs.items ≡ length l.fn.found.costs.items;
  tried : HasTriedAll (worth g.S.Semiring.product l.at.rules.now l.at.place (vectors l.at.stack.now)) (take l.entry-index l.entries) (bucket l.table) (cost_of l.found);
}
