use Rattle.std.proofs.Common.{◌≡◌, take}
use Rattle.tib_workers.specs.Rows.{parts_in}
use Rattle.tib_hunt.proofs.worker_round.count_parts.Given as goal

abbrev pub invariant-loop-row : goal.invariant-loop-row
invariant-loop-row g l = l.made ≡ parts_in (take l.row-index l.rows)
