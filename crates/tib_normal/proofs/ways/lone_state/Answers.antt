use Rattle.tib_normal.proofs.LoneSides.{lone_of_hole}
use Rattle.tib_normal.proofs.ways.lone_state.Goals as goal

pub returns-in-Hole-clause-lone : goal.returns-in-Hole-clause-lone
returns-in-Hole-clause-lone c = lone_of_hole c.items.result.now c.args.rule.now.right c.in-Hole.state c.items.ensures.items c.in-Hole.is
