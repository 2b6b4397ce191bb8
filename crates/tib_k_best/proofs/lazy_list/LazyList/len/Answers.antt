use Rattle.std.proofs.Common.{arith}
use Rattle.tib_k_best.proofs.ReadLists.{read_long}
use Rattle.tib_k_best.proofs.lazy_list.LazyList.len.Goals as goal

pub returns : goal.returns
returns c =
    let long = read_long c.self.inside.trees c.self.inside.lists.items c.args.self.now c.self.view_is c.args.place c.requires c.index.result.now c.index.ensures in
    omega (arith, long, c.len.ensures, c.index.result.now.ok.0)
