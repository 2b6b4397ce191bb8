use Rattle.tib_determinize.proofs.PositionsTried.{has_pushed, below_pushed}
use Rattle.tib_determinize.proofs.wanted.add_below.Goals as goal

pub loop-position-preserved : goal.loop-position-preserved
loop-position-preserved c = record {
  more = λ p h. has_pushed c.loop-position.wanted.items c.push.new.self.items c.loop-position.position c.in_ok-push.ensures.items p (c.loop-position.invariant.more p h);
  all = below_pushed c.loop-position.wanted.items c.push.new.self.items c.loop-position.position c.in_ok-push.ensures.items c.loop-position.invariant.all;
}
