use Rattle.std.proofs.Common.{◌≡◌, ◌≤◌, length, drop, map}
use Rattle.std.specs.Prelude.{Some}
use Rattle.tib_weigh.specs.Vectors.{vectors}
use Rattle.tib_weigh.specs.Worth.{times_beside}
use Rattle.tib_grammar.specs.Items.{state_in}
use Rattle.tib_weigh.proofs.trying.product_beside.Given as goal

abbrev pub invariant-loop-i : goal.invariant-loop-i
invariant-loop-i g l = record {
  within : l.i ≤ length l.holes;
  product : Some l.product ≡ times_beside g.S.Semiring.product l.place l.i (drop l.i (map state_in l.holes)) (drop l.i (vectors l.stack));
}

abbrev pub decreases-loop-i : goal.decreases-loop-i
decreases-loop-i g l = l.i
