use Rattle.std.proofs.Common.{◌≡◌, ◌≤◌, length, drop}
use Rattle.tib_grammar.specs.Items.{holes_in}
use Rattle.tib_inside.specs.Inside.{total}
use Rattle.tib_inside.specs.Settling.{costs_in}
use Rattle.tib_trim.proofs.products.product_of.Given as goal

abbrev pub invariant-loop-n : goal.invariant-loop-n
invariant-loop-n g l = record {
  within : l.n ≤ length l.items;
  product : l.product ≡ total g.S.Semiring.product (costs_in l.costs) (holes_in (drop l.n l.items));
}

abbrev pub decreases-loop-n : goal.decreases-loop-n
decreases-loop-n g l = l.n
