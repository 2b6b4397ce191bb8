use Rattle.std.proofs.Common.{length}
use Rattle.tib_match.proofs.StackedItems.{side_nested, as_many}
use Rattle.tib_match.proofs.counting.matches_shown.Goals as goal

pub count_lists-requires-clause-nested : goal.count_lists-requires-clause-nested
count_lists-requires-clause-nested g c = side_nested c.items.result.now c.args.side.now c.items.ensures.items

pub count_lists-requires-clause-costs : goal.count_lists-requires-clause-costs
count_lists-requires-clause-costs g c = as_many c.items.result.now c.args.side.now (length c.args.costs.now) c.items.ensures.items c.requires
