use Rattle.std.proofs.Common.{take}
use Rattle.tib_determinize.specs.Alive.{HasWanted}
use Rattle.tib_determinize.proofs.wanted.wanted_at.Given as goal

abbrev pub invariant-loop-one : goal.invariant-loop-one
invariant-loop-one l = HasWanted l.walk.rules.now l.walk.order.now l.walk.position l.walk.last l.place (take l.one-index l.alive) l.wanted.items
