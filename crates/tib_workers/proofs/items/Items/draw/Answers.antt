use Rattle.std.proofs.Common.{rules}
use Rattle.tib_workers.proofs.items.Items.draw.Goals as goal
use Rattle.tib_workers.proofs.ClaimSteps.{draws}

pub fetch_add-found-requires : goal.fetch_add-found-requires
fetch_add-found-requires c = (search rules, search rules, draws c.self.inside.table.shared.key _ _ c.seat.inside.seat.me c.seat.invariant.0 (search rules))
