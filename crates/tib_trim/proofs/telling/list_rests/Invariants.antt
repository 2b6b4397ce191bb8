use Rattle.std.proofs.Common.{◌≡◌, ◌≤◌, length, drop}
use Rattle.tib_grammar.specs.Items.{holes_in}
use Rattle.tib_inside.specs.Inside.{total}
use Rattle.tib_inside.specs.Settling.{costs_in}
use Rattle.tib_prune.specs.Telling.{rests_of}
use Rattle.tib_trim.proofs.telling.list_rests.Given as goal

abbrev pub invariant-loop-n : goal.invariant-loop-n
invariant-loop-n g l = record {
  within : l.n ≤ length l.items;
  rest : l.rest ≡ total g.S.Semiring.product (costs_in l.costs) (holes_in (drop l.n l.items));
  rests : l.rests.items ≡ rests_of g.S.Semiring.product (costs_in l.costs) (holes_in (drop l.n l.items));
}

abbrev pub decreases-loop-n : goal.decreases-loop-n
decreases-loop-n g l = l.n
