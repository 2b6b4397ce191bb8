use Rattle.tib_ranked_trees.proofs.TreesKept.{size_named}
use Rattle.tib_ranked_trees.proofs.kept.Trees.size.Goals as goal

pub returns-clause-named : goal.returns-clause-named
returns-clause-named c =
    size_named c.self.inside.shapes c.args.self.now c.self.inside.sizes.items c.self.invariant c.self.view_is c.args.tree c.index.result.now c.requires c.index.ensures
