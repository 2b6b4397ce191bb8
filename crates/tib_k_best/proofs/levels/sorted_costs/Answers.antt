use Rattle.tib_k_best.proofs.Levelled.{sorted_costs}
use Rattle.tib_k_best.proofs.levels.sorted_costs.Goals as goal

pub returns : goal.returns
returns c = sorted_costs c.args.rules.now c.in_ok-costs.costs.items c.sort.new.self.items c.in_ok-costs.ensures c.in_ok-sort.ensures.permutation c.in_ok-sort.ensures.sorted
