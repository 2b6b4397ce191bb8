use Rattle.std.proofs.Common.{arith, ap, length}
use Rattle.tib_ranked_trees.specs.ListsOf.{ListsOf}
use Rattle.tib_ranked_trees.proofs.Children.{ranks_within}
use Rattle.tib_ranked_trees.proofs.lists.Lists.raised.Goals as goal

pub push_raised-requires-clause-within : goal.push_raised-requires-clause-within
push_raised-requires-clause-within c =
    let w = ranks_within c.args.self.now c.args.rule c.args.start c.args.i c.count-count.result c.requires.tuple c.requires.below c.count-count.ensures.many in
    let e = ap (λ (x : ListsOf). length x.ranks) c.self.view_is in
    omega (arith, w, e)
