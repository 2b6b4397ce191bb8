use Rattle.std.proofs.Common.{◌≡◌, ◌≤◌, drop}
use Rattle.std.specs.Prelude.{Some}
use Rattle.tib_cost.specs.Semiring.{most}
use Rattle.tib_cost.specs.Least.{times}
use Rattle.tib_grammar.specs.Items.{holes_in}
use Rattle.tib_inside.specs.Inside.{total}
use Rattle.tib_inside.specs.Settling.{costs_in}
use Rattle.tib_inside.proofs.rule_costs.times_items.Given as goal

abbrev pub invariant-loop-item : goal.invariant-loop-item
invariant-loop-item g l = record {
  product : times g.S.Semiring.product (Some l.cost) (total g.S.Semiring.product (costs_in l.costs) (holes_in (drop l.item-index l.items)))
      ≡ total g.S.Semiring.product (costs_in l.costs) (holes_in l.items);
  within : l.cost ≤ most;
}
