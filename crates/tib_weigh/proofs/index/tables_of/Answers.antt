use Rattle.std.proofs.Common.{◌∷◌, [], refl, length-append}
use Rattle.tib_weigh.proofs.Served.{tables_more}
use Rattle.tib_weigh.proofs.index.tables_of.Goals as goal

pub loop-place-preserved : goal.loop-place-preserved
loop-place-preserved c = record {
  long = rw (c.in_ok-push.ensures.items, length-append c.loop-place.tables.items (c.in_ok-new.field-0 ∷ []), c.loop-place.invariant.long) refl;
  each = tables_more c.args.rules.now c.args.rank c.args.positions.now c.loop-place.place c.loop-place.tables.items c.push.new.self.items c.in_ok-new.field-0 c.in_ok-push.ensures.items c.loop-place.invariant.long c.in_ok-new.ensures c.loop-place.invariant.each;
}
