use Rattle.std.proofs.Common.{arith, ap, ◌∙◌}
use Rattle.std.proofs.lemmas.Result.{IfOk-weaker}
use Rattle.tib_ranked_trees.specs.Best.{Costed}
use Rattle.tib_k_best.proofs.ReadLists.{read_entry, read_long, read_tree}
use Rattle.tib_k_best.proofs.lazy_list.LazyList.tree.Goals as goal

pub index-requires-2 : goal.index-requires-2
index-requires-2 c =
    let long = read_long c.self.inside.trees c.self.inside.lists.items c.args.self.now c.self.view_is c.args.place c.requires.place c.index.result.now c.index.ensures in
    omega (arith, long, c.requires.inside, c.index.result.now.ok.0)

pub tree-requires-clause-below : goal.tree-requires-clause-below
tree-requires-clause-below c =
    (read_tree c.self.inside.trees c.self.inside.lists.items c.args.self.now c.self.view_is c.args.place c.requires.place c.index.result.now c.index.ensures
    c.args.i c.requires.inside c.index-2.result.now c.index-2.ensures c.self.invariant.listed).0

pub tree-requires-clause-small : goal.tree-requires-clause-small
tree-requires-clause-small c =
    (read_tree c.self.inside.trees c.self.inside.lists.items c.args.self.now c.self.view_is c.args.place c.requires.place c.index.result.now c.index.ensures
    c.args.i c.requires.inside c.index-2.result.now c.index-2.ensures c.self.invariant.listed).1

pub returns : goal.returns
returns c =
    let read =
    read_entry c.self.inside.trees c.self.inside.lists.items c.args.self.now c.self.view_is c.args.place c.requires.place c.index.result.now c.index.ensures
    c.args.i c.requires.inside c.index-2.result.now c.index-2.ensures
    in
    IfOk-weaker c.tree.result _ _ (λ t h. h ∙ ap (λ (y : Costed). y.0) read) c.tree.ensures
