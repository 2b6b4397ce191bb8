use Rattle.std.specs.Prelude.{◌≡◌, ℕ, ◌+◌, drop}
use Rattle.std.specs.declared.cmp.Ordering.{Ordering}
use Rattle.std.specs.Ordering.{ordering_then}
use Rattle.std.proofs.Common.{arith, ap, ◌∙◌, sym}
use Rattle.tib_tree.specs.Trees.{Tree}
use Rattle.tib_tree.specs.Order.{tree_cmp_by}
use Rattle.tib_ranked_trees.specs.Levels.{trees_of}
use Rattle.tib_ranked_trees.specs.Pass.{picked}
use Rattle.tib_ranked_trees.specs.ListsOf.{ListsOf}
use Rattle.tib_ranked_trees.specs.Seen.{tree_at}
use Rattle.tib_ranked_trees.specs.Ordered.{kids_cmp}
use Rattle.tib_ranked_trees.specs.Held.{ranks_of, below_of, entries_of}
use Rattle.tib_ranked_trees.proofs.Comparing.{is_equal, not_equal, then_stop, then_skip, children_step}
use Rattle.tib_ranked_trees.proofs.lists.Lists.compare_children.Goals as goal

pub returns-then-ne : goal.returns-then-ne
returns-then-ne c =
    let x : ListsOf = c.args.self.now in
    let s : Tree ℕ = tree_at x.trees c.child.result.now.tree in
    let t : Tree ℕ = tree_at x.trees c.child-in-loop-i.result.now.tree in
    let order : c.compare-order.result ≡ tree_cmp_by x.labels s t = c.compare-order.ensures ∙ ap (λ (y : ListsOf). tree_cmp_by y.labels (tree_at y.trees c.child.result.now.tree) (tree_at y.trees c.child-in-loop-i.result.now.tree)) c.self.view_is in
    let step = children_step x.labels (entries_of x) (below_of x c.args.one.now) (ranks_of x c.args.one.now) (below_of x c.args.other.now) (ranks_of x c.args.other.now) c.loop-i.i
    c.requires.one.ranks c.requires.other.ranks (omega (arith, c.count-count.ensures.many)) (omega (arith, c.count-count.ensures.many, c.requires.as_many)) s t
    (ap (λ (z : Tree ℕ × ℕ). z.0) c.child.ensures.same) (ap (λ (z : Tree ℕ × ℕ). z.0) c.child-in-loop-i.ensures.same) in
    let rest : Ordering = kids_cmp x.labels (trees_of (picked (entries_of x) (drop (c.loop-i.i + 1) (below_of x c.args.one.now)) (drop (c.loop-i.i + 1) (ranks_of x c.args.one.now))))
    (trees_of (picked (entries_of x) (drop (c.loop-i.i + 1) (below_of x c.args.other.now)) (drop (c.loop-i.i + 1) (ranks_of x c.args.other.now)))) in
    sym (c.loop-i.invariant ∙ step ∙ ap (λ (o : Ordering). ordering_then o rest) (sym order) ∙ then_stop c.compare-order.result rest (not_equal c.compare-order.result c.if-ne.ensures))

pub loop-i-preserved : goal.loop-i-preserved
loop-i-preserved c =
    let x : ListsOf = c.args.self.now in
    let s : Tree ℕ = tree_at x.trees c.child.result.now.tree in
    let t : Tree ℕ = tree_at x.trees c.child-in-loop-i.result.now.tree in
    let order : c.compare-order.result ≡ tree_cmp_by x.labels s t = c.compare-order.ensures ∙ ap (λ (y : ListsOf). tree_cmp_by y.labels (tree_at y.trees c.child.result.now.tree) (tree_at y.trees c.child-in-loop-i.result.now.tree)) c.self.view_is in
    let step = children_step x.labels (entries_of x) (below_of x c.args.one.now) (ranks_of x c.args.one.now) (below_of x c.args.other.now) (ranks_of x c.args.other.now) c.loop-i.i
    c.requires.one.ranks c.requires.other.ranks (omega (arith, c.count-count.ensures.many)) (omega (arith, c.count-count.ensures.many, c.requires.as_many)) s t
    (ap (λ (z : Tree ℕ × ℕ). z.0) c.child.ensures.same) (ap (λ (z : Tree ℕ × ℕ). z.0) c.child-in-loop-i.ensures.same) in
    let rest : Ordering = kids_cmp x.labels (trees_of (picked (entries_of x) (drop (c.loop-i.i + 1) (below_of x c.args.one.now)) (drop (c.loop-i.i + 1) (ranks_of x c.args.one.now))))
    (trees_of (picked (entries_of x) (drop (c.loop-i.i + 1) (below_of x c.args.other.now)) (drop (c.loop-i.i + 1) (ranks_of x c.args.other.now)))) in
    c.loop-i.invariant ∙ step ∙ ap (λ (o : Ordering). ordering_then o rest) (sym order) ∙ then_skip c.compare-order.result rest (is_equal c.compare-order.result c.if-ne.ensures)
