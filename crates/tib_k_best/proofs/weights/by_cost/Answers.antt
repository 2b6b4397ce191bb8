use Rattle.tib_k_best.proofs.Sorting.{by_cost}
use Rattle.tib_k_best.proofs.weights.by_cost.Goals as goal

pub returns : goal.returns
returns c = by_cost c.args.weights.now c.in_ok-pairs.pairs.items c.sort.new.self.items c.in_ok-pairs.ensures c.in_ok-sort.ensures.permutation c.in_ok-sort.ensures.sorted
