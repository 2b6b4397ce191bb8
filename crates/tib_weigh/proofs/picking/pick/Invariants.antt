use Rattle.std.proofs.Common.{◌≡◌, ◌≤◌, length, take}
use Rattle.tib_weigh.specs.Picks.{picks}
use Rattle.tib_weigh.proofs.picking.pick.Given as goal

abbrev pub invariant-loop-entry : goal.invariant-loop-entry
invariant-loop-entry l = record {
  few : l.many ≤ l.entry-index;
  long : length l.vector ≤ length l.picked.items;
  picked : take l.many l.picked.items ≡ picks l.table (take l.entry-index l.vector);
}
