use Rattle.std.proofs.Common.{arith}
use Rattle.tib_tree.proofs.Growing.{grows_twice}
use Rattle.tib_transducer_file.specs.Added.{on_left}
use Rattle.tib_transducer_file.proofs.AddedLabels.{back_adds}
use Rattle.tib_transducer_file.proofs.SidesRead.{pushing_goes}
use Rattle.tib_transducer_file.proofs.sides.push_below.Goals as goal

pub loop-i-preserved : goal.loop-i-preserved
loop-i-preserved c =
    let i = c.loop-i.invariant in
    record {
      pushing = pushing_goes c.loop-i.labels c.left_item.new.labels c.args.line.now c.args.below.now c.args.items.now.items c.loop-i.items.items c.push.new.self.items c.loop-i.number c.number_behind-number.result c.loop-i.i _ c.in_ok-item.item
          (omega (arith, c.loop-i-test.true)) c.left_item.ensures.grows c.in_ok-push.ensures.items c.in_ok-item.ensures.item c.in_ok-item.ensures.numbered c.number_behind-number.ensures i.pushing;
      texts = back_adds on_left c.args.labels.now c.loop-i.labels c.left_item.new.labels c.args.line.now c.args.below.now c.loop-i.i _ (omega (arith, c.loop-i-test.true)) i.pushing.within i.texts c.in_ok-item.ensures.texts;
      grows = grows_twice _ _ _ i.grows c.left_item.ensures.grows;
      few = omega (arith, i.few, c.left_item.ensures.few, c.loop-i-test.true, i.pushing.within);
    }
