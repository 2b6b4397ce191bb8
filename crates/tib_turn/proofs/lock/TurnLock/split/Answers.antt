use Rattle.std.proofs.Common.{rules}
use Rattle.tib_turn.proofs.lock.TurnLock.split.Goals as goal
use Rattle.tib_turn.proofs.Sharing.{twins}

pub split_seat-requires : goal.split_seat-requires
split_seat-requires g c = (search rules, search rules, twins g.V.Grows.log _ _)
