use Rattle.std.proofs.Common.{rules}
use Rattle.tib_workers.proofs.items.Items.join.Goals as goal
use Rattle.tib_workers.proofs.ClaimSteps.{joins, looks}

pub join_seat-requires : goal.join_seat-requires
join_seat-requires c = (search rules, search rules, search rules, search rules, joins c.self.inside.table.shared.key _ _ _ _ c.seat.invariant.0)

pub load-requires : goal.load-requires
load-requires c = (search rules, search rules, looks c.self.inside.table.shared.key _ _ c.join_seat.new.seat.me (search rules))
