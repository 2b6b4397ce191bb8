use Rattle.tib_count.proofs.Orders.{none_found, endless_rules}
use Rattle.tib_count.proofs.counting.count_runs.Goals as goal

pub returns-in_default : goal.returns-in_default
returns-in_default c =
    endless_rules c.args.rules.now c.in_ok-edges.edges.froms.items c.in_ok-edges.edges.tos.items c.in_ok-edges.ensures c.requires.runs
    (none_found c.in_ok-order.field-0 _ _ c.in_default.is c.in_ok-order.ensures)
