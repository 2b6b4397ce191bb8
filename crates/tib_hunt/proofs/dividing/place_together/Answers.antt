use Rattle.std.proofs.Common.{subst}
use Rattle.tib_hunt.specs.Rows.{StayBelow}
use Rattle.tib_hunt.proofs.dividing.place_together.Goals as goal

pub returns-clause-below : goal.returns-clause-below
returns-clause-below g c = subst (λ v. StayBelow g.E.Expand.reading c.args.positions.now.first c.args.positions.now.moved.now v.items c.in_ok-rules.field-0.items) c.replace-old.ensures.value c.in_ok-rules.ensures.1
