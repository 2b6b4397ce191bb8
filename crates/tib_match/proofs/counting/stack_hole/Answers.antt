use Rattle.std.proofs.Common.{◌-◌, ◌<◌, length, arith, subst}
use Rattle.std.proofs.lemmas.List.{get_or_read}
use Rattle.tib_match.specs.Counting.{IsOneAt, plenty_at}
use Rattle.tib_match.specs.declared.hole_cost.HoleCost.TheVariants.{Free}
use Rattle.tib_match.proofs.counting.stack_hole.Goals as goal

pub returns : goal.returns
returns g c =
    let low : c.args.holes - 1 < length c.args.costs.now = omega (arith, c.requires.some, c.requires.costs) in
    record {
      one_less = omega (arith, c.requires.some);
      few_costs = low;
      column = c.in_ok-column.column;
      after = c.in_ok-push.ensures.items;
      is_column = subst (λ h. IsOneAt h (plenty_at c.in_ok-column.column)) (get_or_read c.args.costs.now (c.args.holes - 1) c.index-costs-left.result low c.index-costs-left.is Free) c.in_ok-column.ensures;
    }
