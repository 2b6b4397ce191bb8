use Rattle.std.proofs.Common.{◌≡◌, length, take}
use Rattle.tib_weigh.specs.Found.{cost_of, IsNoted}
use Rattle.tib_weigh.specs.Vectors.{vectors}
use Rattle.tib_weigh.specs.Worth.{worth, IsRemembered, HasTried}
use Rattle.tib_weigh.proofs.trying.try_slot.Given as goal

abbrev pub invariant-loop-record : goal.invariant-loop-record
invariant-loop-record g l = record {
  last : IsRemembered g.S.Semiring.product l.at.rules.now l.at.place (vectors l.at.stack.now) l.last;
  noted : IsNoted l.found;
  long : length l.found.costs.items ≡ length l.fn.found.costs.items;
  tried : HasTried (worth g.S.Semiring.product l.at.rules.now l.at.place (vectors l.at.stack.now)) l.entry.state (take l.record-index l.ready) (cost_of l.fn.found) (cost_of l.found);
}
