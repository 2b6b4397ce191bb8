use Rattle.std.proofs.Common.{ap, sym, ◌∙◌, length}
use Rattle.std.specs.Prelude.{None}
use Rattle.std.proofs.lemmas.List.{length-set}
use Rattle.tib_canon.proofs.TransducerPlaces.{others_there, taken_on}
use Rattle.tib_canon.proofs.transducer_taking.moved_rules.Goals as goal

pub loop-position-preserved : goal.loop-position-preserved
loop-position-preserved c = record {
  taken = taken_on c.args.rules.items c.args.positions.now c.requires.below c.requires.apart c.loop-position.places.items c.loop-position.position-index c.loop-position.taken.items c.push.new.self.items c.in-Some.rule
      c.loop-position.invariant.there c.loop-position-test.true c.loop-position.invariant.taken (sym c.take_from.ensures.value ∙ c.in-Some.is) c.in_ok-push-in-Some.ensures.items;
  many = ap length c.take_from.ensures.after ∙ length-set c.loop-position.places.items _ None ∙ c.loop-position.invariant.many;
  there = others_there c.args.rules.items c.args.positions.now c.requires.below c.requires.apart c.loop-position.places.items c.take_from.new.places.items c.loop-position.position-index c.loop-position.invariant.there c.loop-position-test.true
      c.take_from.ensures.after;
}
