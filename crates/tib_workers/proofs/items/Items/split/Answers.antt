use Rattle.std.proofs.Common.{rules}
use Rattle.tib_workers.proofs.items.Items.split.Goals as goal
use Rattle.tib_workers.proofs.ClaimSteps.{parts}

pub split_seat-requires : goal.split_seat-requires
split_seat-requires c = (search rules, search rules, parts c.self.inside.table.shared.key c.seat.inside.seat.id c.seat.inside.seat.me.0 (search rules) (search rules))
