use Rattle.std.proofs.Common.{take}
use Rattle.tib_lex.specs.Lists.{Each}
use Rattle.tib_determinize.specs.Occurrences.{BeginAll, IsBegun}
use Rattle.tib_determinize.proofs.alive.begin_at.Given as goal

abbrev pub invariant-loop-one : goal.invariant-loop-one
invariant-loop-one g l = record {
  sound : Each (IsBegun l.walk.rules.now l.walk.label l.walk.rank) l.alive.items;
  whole : BeginAll l.walk.rules.now l.walk.order.now l.walk.position l.walk.label l.walk.rank l.walk.last (take l.one-index l.places) l.alive.items;
}
