use Rattle.std.proofs.Common.{◌≡◌, take, map, length}
use Rattle.tib_transducer.specs.Rules.{transducer_rule}
use Rattle.tib_canon.proofs.TransducerPlaces.{AreThere}
use Rattle.tib_canon.proofs.transducer_taking.moved_rules.Given as goal

abbrev pub invariant-loop-position : goal.invariant-loop-position
invariant-loop-position l = record {
  taken : l.taken.items ≡ map (transducer_rule l.fn.rules.items) (take l.position-index l.positions);
  many : length l.places.items ≡ length l.fn.rules.items;
  there : AreThere l.fn.rules.items l.positions l.places.items l.position-index;
}
