use Rattle.std.proofs.Common.{arith, sym, ◌∙◌}
use Rattle.tib_match.proofs.PlentySteps.{hole_leads}
use Rattle.tib_match.proofs.counting.leading_holes.Goals as goal

pub loop-many-preserved : goal.loop-many-preserved
loop-many-preserved g c = record {
  few = omega (arith, c.loop-many-test.true);
  holes = hole_leads c.loop-many.many c.args.items.now c.index-items-many.result c.in-Hole.field-0 c.loop-many.invariant.holes c.if-many-items.true (sym c.index-items-many.is ∙ c.in-Hole.is);
}
