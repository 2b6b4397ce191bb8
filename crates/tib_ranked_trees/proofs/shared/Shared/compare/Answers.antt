use Rattle.std.specs.Prelude.{◌≡◌, ℕ, ◌<◌, List, length}
use Rattle.std.proofs.Common.{arith, ap, ◌∙◌, subst, sym, inl}
use Rattle.tib_tree.specs.Trees.{Tree, only, size}
use Rattle.tib_tree.specs.Growth.{LabelsBelow}
use Rattle.tib_tree.specs.Order.{tree_cmp_by}
use Rattle.tib_ranked_trees.specs.Numbers.{RootsBelow, most_size}
use Rattle.tib_ranked_trees.specs.Seen.{seen, tree_at}
use Rattle.tib_ranked_trees.proofs.Seeing.{is_named, seen_long, roots_below}
use Rattle.tib_ranked_trees.proofs.shared.Shared.compare.Goals as goal

pub compare-requires : goal.compare-requires
compare-requires c =
    let v : length (seen c.self.inside.trees) ≡ length c.args.self.now = ap (λ (ts : List (Tree ℕ)). length ts) c.self.view_is in
    record {
      left = omega (arith, v, c.requires.one, seen_long c.self.inside.trees);
      right = omega (arith, v, c.requires.other, seen_long c.self.inside.trees);
      labels =
          subst (λ (l : ℕ). RootsBelow l c.self.inside.trees) (sym c.requires.ranks.long)
          (roots_below c.self.inside.trees c.self.invariant (length c.args.labels.now)
          (subst (λ (ts : List (Tree ℕ)). (n : ℕ) → n < length ts → LabelsBelow (length c.args.labels.now) (only (tree_at ts n))) (sym c.self.view_is) c.requires.labelled));
    }

pub returns : goal.returns
returns c =
    let v : length (seen c.self.inside.trees) ≡ length c.args.self.now = ap (λ (ts : List (Tree ℕ)). length ts) c.self.view_is in
    c.compare.ensures c.args.labels.now c.requires.distinct c.requires.ranks (tree_at (seen c.self.inside.trees) c.args.one) (tree_at (seen c.self.inside.trees) c.args.other)
    (is_named c.self.inside.trees c.self.invariant c.args.one (omega (arith, v, c.requires.one)))
    (is_named c.self.inside.trees c.self.invariant c.args.other (omega (arith, v, c.requires.other)))
    (inl (subst (λ (ts : List (Tree ℕ)). size (tree_at ts c.args.one) < most_size) (sym c.self.view_is) c.requires.small))
    ∙ ap (λ (ts : List (Tree ℕ)). tree_cmp_by c.args.labels.now (tree_at ts c.args.one) (tree_at ts c.args.other)) c.self.view_is
