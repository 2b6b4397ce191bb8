use Rattle.std.proofs.Common.{arith, ◌≡◌, length}
use Rattle.tib_difference.proofs.Sizes.{not_as_many}
use Rattle.tib_difference.proofs.subset.all_in.Goals as goal

pub returns-then-states-positions : goal.returns-then-states-positions
returns-then-states-positions c =
    not_as_many c.args.states.now c.args.order.now c.args.positions.now (λ (e : length c.args.states.now ≡ length c.args.positions.now). omega arith)
