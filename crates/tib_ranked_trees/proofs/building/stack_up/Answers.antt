use Rattle.std.proofs.Common.{◌++◌, ◌-◌, ap, arith, get_or, refl, sym}
use Rattle.tib_ranked_trees.specs.Numbers.{back}
use Rattle.tib_ranked_trees.proofs.Remaining.{drop_all, stacked}
use Rattle.tib_ranked_trees.proofs.building.stack_up.Goals as goal

pub loop-i-init : goal.loop-i-init
loop-i-init c = (omega arith, ap (λ ns. ns ++ back c.args.stack.now.items) (sym (drop_all c.args.numbers.now)))

pub loop-i-preserved : goal.loop-i-preserved
loop-i-preserved c = (
  omega (arith, c.loop-i.invariant.0),
  stacked c.args.numbers.now c.loop-i.stack.items c.push.new.self.items (back c.args.stack.now.items) c.loop-i.i (get_or c.args.numbers.now (c.loop-i.i - 1) 0) c.loop-i-test.true c.loop-i.invariant.0 refl c.in_ok-push.ensures.items c.loop-i.invariant.1,
)
