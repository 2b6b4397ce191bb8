use Rattle.tib_compose.proofs.plenty.Plenties.set.Goals as goal

pub returns : goal.returns
returns c i p = c.in_ok-insert.ensures.updates.0 (i, p)
