use Rattle.std.specs.Prelude.{◌≡◌, ℕ, List, length}
use Rattle.std.proofs.Common.{arith, ap, ◌∙◌}
use Rattle.tib_tree.specs.Trees.{Tree}
use Rattle.tib_ranked_trees.specs.Numbers.{told_size}
use Rattle.tib_ranked_trees.specs.Seen.{seen, tree_at}
use Rattle.tib_ranked_trees.proofs.Seeing.{is_named, seen_long}
use Rattle.tib_ranked_trees.proofs.shared.Shared.size.Goals as goal

pub size-requires : goal.size-requires
size-requires c =
    let v : length (seen c.self.inside.trees) ≡ length c.args.self.now = ap (λ (ts : List (Tree ℕ)). length ts) c.self.view_is in
    omega (arith, v, c.requires, seen_long c.self.inside.trees)

pub returns : goal.returns
returns c =
    let v : length (seen c.self.inside.trees) ≡ length c.args.self.now = ap (λ (ts : List (Tree ℕ)). length ts) c.self.view_is in
    c.size.ensures.value (tree_at (seen c.self.inside.trees) c.args.tree) (is_named c.self.inside.trees c.self.invariant c.args.tree (omega (arith, v, c.requires)))
    ∙ ap (λ (ts : List (Tree ℕ)). told_size (tree_at ts c.args.tree)) c.self.view_is
