use Rattle.std.proofs.Common.{arith, ap}
use Rattle.tib_ranked_trees.specs.Best.{Costed}
use Rattle.tib_k_best.proofs.ReadLists.{read_entry, read_long}
use Rattle.tib_k_best.proofs.lazy_list.LazyList.cost.Goals as goal

pub index-requires-2 : goal.index-requires-2
index-requires-2 c =
    let long = read_long c.self.inside.trees c.self.inside.lists.items c.args.self.now c.self.view_is c.args.place c.requires.place c.index.result.now c.index.ensures in
    omega (arith, long, c.requires.inside, c.index.result.now.ok.0)

pub returns : goal.returns
returns c =
    ap (λ (y : Costed). y.1)
    (read_entry c.self.inside.trees c.self.inside.lists.items c.args.self.now c.self.view_is c.args.place c.requires.place c.index.result.now c.index.ensures
    c.args.i c.requires.inside c.index-2.result.now c.index-2.ensures)
