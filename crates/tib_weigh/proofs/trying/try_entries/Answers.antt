use Rattle.std.proofs.Common.{◌∙◌, take}
use Rattle.tib_weigh.specs.Vectors.{vectors}
use Rattle.tib_weigh.specs.Found.{cost_of}
use Rattle.tib_weigh.specs.Tables.{bucket}
use Rattle.tib_weigh.specs.Worth.{worth, HasTriedAll}
use Rattle.tib_weigh.proofs.Tries.{taken, all_more, has_item}
use Rattle.tib_weigh.proofs.trying.try_entries.Goals as goal

pub try_slot-requires-clause-here : goal.try_slot-requires-clause-here
try_slot-requires-clause-here g c =
    c.requires.here c.entry-item.result (has_item c.args.entries.now c.loop-entry.entry-index c.entry-item.result c.loop-entry-test.true c.entry-item.is)

pub loop-entry-preserved : goal.loop-entry-preserved
loop-entry-preserved g c = record {
  last = c.try_slot.ensures.last;
  noted = c.in_ok-try_slot.ensures.noted;
  long = c.in_ok-try_slot.ensures.long ∙ c.loop-entry.invariant.long;
  tried = taken (λ es. HasTriedAll (worth g.S.Semiring.product c.args.at.rules.now c.args.at.place (vectors c.args.at.stack.now)) es (bucket c.args.table.now) (cost_of c.try_slot.new.found))
      c.args.entries.now c.loop-entry.entry-index c.entry-item.result c.loop-entry-test.true c.entry-item.is
      (all_more (worth g.S.Semiring.product c.args.at.rules.now c.args.at.place (vectors c.args.at.stack.now)) (take c.loop-entry.entry-index c.args.entries.now) c.entry-item.result (bucket c.args.table.now) c.at-ready.result.now
      (cost_of c.loop-entry.found) (cost_of c.try_slot.new.found) c.at-ready.ensures c.in_ok-try_slot.ensures.tried c.loop-entry.invariant.tried);
}
