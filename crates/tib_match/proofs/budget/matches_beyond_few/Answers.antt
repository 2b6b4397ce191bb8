use Rattle.std.proofs.Common.{rules, length, sym}
use Rattle.tib_match.proofs.StackedItems.{of_side}
use Rattle.tib_match.proofs.Budgets.{none_where}
use Rattle.tib_match.proofs.budget.matches_beyond_few.Goals as goal

pub beyond_few-requires : goal.beyond_few-requires
beyond_few-requires g c =
    let state = c.requires in
    let costs = of_side c.items.result.now c.args.side.now (length c.args.costs.now) c.items.ensures.items (c.is_each_priced.ensures.yes c.if-not-is_each_priced.false) in
    search (rules, state, costs)

pub returns-then-not-is_each_priced : goal.returns-then-not-is_each_priced
returns-then-not-is_each_priced g c =
    none_where g.met.S.Semiring.laws c.args.normal.now.rules c.grammar.ensures.normal.normal c.args.side.now c.items.ensures.leaves c.args.state c.args.above c.items.result.now (sym c.items.ensures.items) c.args.most c.args.costs.now
    (c.is_each_priced.ensures.no c.if-not-is_each_priced.true) c.new.result.items c.new.ensures.items
