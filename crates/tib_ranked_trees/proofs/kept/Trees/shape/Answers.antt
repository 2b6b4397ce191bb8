use Rattle.std.proofs.Common.{◌≡◌, subst}
use Rattle.std.specs.Prelude.{slice_get, Some}
use Rattle.tib_ranked_trees.proofs.TreesKept.{shape_rooted, shape_low}
use Rattle.tib_ranked_trees.proofs.kept.Trees.shape.Goals as goal

pub returns-clause-rooted : goal.returns-clause-rooted
returns-clause-rooted c =
    shape_rooted c.self.inside.shapes c.args.self.now c.self.inside.sizes.items c.self.invariant c.self.view_is c.args.tree c.shape.result.now c.requires (subst (λ l. slice_get l c.args.tree ≡ Some c.shape.result.now) c.self.view_is c.shape.ensures)

pub returns-clause-low : goal.returns-clause-low
returns-clause-low c =
    shape_low c.self.inside.shapes c.args.self.now c.self.inside.sizes.items c.self.invariant c.self.view_is c.args.tree c.requires
