use Rattle.std.proofs.Common.{sym, ◌∙◌}
use Rattle.tib_match.specs.Boxes.{cost_at}
use Rattle.tib_match.proofs.BoxCosts.{spanned_in, spanned_low, spanned_past}
use Rattle.tib_match.proofs.columns.cost_in.Goals as goal

pub returns-then-state-span : goal.returns-then-state-span
returns-then-state-span g c = spanned_low c.args.span.now (cost_at c.args.cost.now) c.args.state c.if-state-span.true

pub returns-then-state-span-2 : goal.returns-then-state-span-2
returns-then-state-span-2 g c = spanned_past c.args.span.now (cost_at c.args.cost.now) c.args.state c.if-state-span-2.true

pub returns : goal.returns
returns g c = c.of.ensures ∙ sym (spanned_in c.args.span.now (cost_at c.args.cost.now) c.args.state c.if-state-span.false c.if-state-span-2.false)
