use Rattle.std.proofs.Common.{arith, length, ◌≡◌}
use Rattle.tib_ranked_trees.proofs.Placed.{all_listed}
use Rattle.tib_ranked_trees.proofs.text_ranks.all_labels.Goals as goal

pub returns : goal.returns
returns c =
    let long : length c.loop-label.order.items ≡ length c.args.labels.now = omega (arith, c.loop-label.invariant.0, c.loop-label.invariant.1, c.loop-label-test.false, c.len.ensures.value) in
    all_listed (length c.args.labels.now) c.loop-label.order.items c.loop-label.invariant.2 long
