use Rattle.std.specs.Prelude.{◌≡◌, ◌≤◌, ℕ, List, length, Result, Ok, Err, IfOk}
use Rattle.std.proofs.Common.{arith, ap, sym, subst, ◌∙◌}
use Rattle.tib_tree.specs.Trees.{Tree, most_nodes, size}
use Rattle.tib_ranked_trees.specs.Numbers.{IsNamed}
use Rattle.tib_ranked_trees.specs.Seen.{seen, tree_at}
use Rattle.tib_ranked_trees.proofs.Seeing.{named_tree, seen_long}
use Rattle.tib_ranked_trees.proofs.shared.Shared.tree.Goals as goal

if_ok : {E : Type 0} (r : Result (Tree ℕ) E) (P Q : Tree ℕ → Type 0) → ((t : Tree ℕ) → P t → Q t) → IfOk r P → IfOk r Q
if_ok (Ok t) P Q f h = f t h
if_ok (Err e) P Q f h = tt

pub tree-requires-clause-below : goal.tree-requires-clause-below
tree-requires-clause-below c =
    let v : length (seen c.self.inside.trees) ≡ length c.args.self.now = ap (λ (ts : List (Tree ℕ)). length ts) c.self.view_is in
    omega (arith, v, c.requires.below, seen_long c.self.inside.trees)

pub tree-requires-clause-small : goal.tree-requires-clause-small
tree-requires-clause-small c = λ t is.
    let e : tree_at c.args.self.now c.args.tree ≡ t = sym (ap (λ (ts : List (Tree ℕ)). tree_at ts c.args.tree) c.self.view_is) ∙ named_tree c.self.inside.trees c.self.invariant c.args.tree t is in
    subst (λ (u : Tree ℕ). size u ≤ most_nodes) e c.requires.small

pub returns : goal.returns
returns c =
    if_ok c.tree.result (λ t. IsNamed c.self.inside.trees c.args.tree t) (λ t. t ≡ tree_at c.args.self.now c.args.tree)
    (λ t is. sym (named_tree c.self.inside.trees c.self.invariant c.args.tree t is) ∙ ap (λ (ts : List (Tree ℕ)). tree_at ts c.args.tree) c.self.view_is) c.tree.ensures
