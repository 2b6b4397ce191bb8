use Rattle.std.specs.Prelude.{ℕ, List, length}
use Rattle.std.proofs.Common.{arith, ap}
use Rattle.tib_tree.specs.Trees.{Tree}
use Rattle.tib_ranked_trees.proofs.Seeing.{kept_after, seen_long, shapes_after, inserted}
use Rattle.tib_ranked_trees.proofs.shared.Shared.insert.Goals as goal

pub insert-requires : goal.insert-requires
insert-requires c = λ m h. omega (arith, c.requires m h, seen_long c.self.inside.trees, ap (λ (us : List (Tree ℕ)). length us) c.self.view_is)

pub invariant_of-self : goal.invariant_of-self
invariant_of-self c =
    shapes_after c.insert.result c.self.inside.trees c.args.label c.args.children.now c.insert.new.self c.args.self.now c.self.view_is c.self.invariant c.requires c.insert.ensures.adds
    c.insert.ensures.err

pub returns-clause-inserts : goal.returns-clause-inserts
returns-clause-inserts c =
    inserted c.insert.result c.self.inside.trees c.args.label c.args.children.now c.insert.new.self c.args.self.now c.self.view_is c.self.invariant c.requires c.insert.ensures.below
    c.insert.ensures.adds c.insert.ensures.named

pub returns-clause-err : goal.returns-clause-err
returns-clause-err c = kept_after c.insert.result c.self.inside.trees c.insert.new.self c.args.self.now c.self.view_is c.insert.ensures.err
