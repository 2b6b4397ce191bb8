use Rattle.std.proofs.Common.{◌-◌, get_or, arith, ap, ◌∙◌}
use Rattle.std.proofs.lemmas.List.{get_or_read}
use Rattle.tib_match.specs.Boxes.{spanned, cost_at}
use Rattle.tib_match.specs.Searching.{no_span}
use Rattle.tib_match.specs.declared.hole_cost.HoleCost.TheVariants.{Free}
use Rattle.tib_match.proofs.box_cost.stack_hole.Goals as goal

pub returns : goal.returns
returns g c = record {
  one_less = omega (arith, c.requires.some);
  few_costs = omega (arith, c.requires.some, c.requires.costs);
  few_spans = omega (arith, c.requires.some, c.requires.spans);
  column = c.in_ok-column.column;
  after = c.in_ok-push.ensures.items;
  is_column = λ q. c.in_ok-column.ensures q
      ∙ ap (λ h. spanned (get_or c.args.spans.now (c.args.holes - 1) no_span) (cost_at h) q)
      (get_or_read c.args.costs.now (c.args.holes - 1) c.index-costs-left.result (omega (arith, c.requires.some, c.requires.costs)) c.index-costs-left.is Free);
}
