use Rattle.std.proofs.Common.{◌≡◌, ◌<◌, ◌+◌, ◌-◌, ◌≤◌, length, arith, sym, ◌∙◌, ap}
use Rattle.std.specs.Prelude.{ℕ, List}
use Rattle.tib_tree.specs.Trees.{Tree, size}
use Rattle.tib_grammar.specs.Run.{rule_at}
use Rattle.tib_ranked_trees.specs.Levels.{states_of}
use Rattle.tib_ranked_trees.specs.Held.{entries_of, ranks_from, IsSound}
use Rattle.tib_ranked_trees.specs.Numbers.{told_size}
use Rattle.tib_ranked_trees.specs.Seen.{tree_at}
use Rattle.tib_ranked_trees.specs.ListsOf.{ListsOf}
use Rattle.tib_ranked_trees.proofs.Offering.{nodes_from, nodes_begin, nodes_step}
use Rattle.tib_ranked_trees.proofs.lists.Lists.size_of.Goals as goal

pub loop-i-init : goal.loop-i-init
loop-i-init c = (
  omega (arith, c.count-i.ensures.many),
  sym (nodes_begin (entries_of c.args.self.now) (states_of (rule_at c.args.self.now.rules c.args.rule)) (ranks_from c.args.self.now c.args.rule c.args.start) c.requires.tuple.ranks
      c.count-i.result c.count-i.ensures.many),
  omega (arith, c.count-i.ensures.many),
)

-- a tree of a list is small, and its size is stored
at_most : (x : ListsOf) → IsSound x → (n m r : ℕ) (ts : List (Tree ℕ)) → n < length x.trees → ts ≡ x.trees → m ≡ told_size (tree_at ts n) → r ≡ m → (r ≡ size (tree_at x.trees n)) × (r ≤ 10000)
at_most x s n m r ts h e f g =
    let small : size (tree_at x.trees n) ≤ 10000 = s.small n h in
    let told : m ≡ told_size (tree_at x.trees n) = f ∙ ap (λ (us : List (Tree ℕ)). told_size (tree_at us n)) e in
    (omega (arith, small, told, g), omega (arith, small, told, g))

pub overflow_add-size : goal.overflow_add-size
overflow_add-size c =
    let k = at_most c.args.self.now c.requires.sound c.child-entry.result.now.tree c.size.result c.from-size.result c.self.inside.trees c.child-entry.ensures.there (ap (λ (x : ListsOf). x.trees) c.self.view_is) c.size.ensures c.from-size.ensures in
    search (arith, c.loop-i.invariant.2, k.1, c.count-i.ensures.many, c.count-i.ensures.few, c.loop-i.invariant.0)

pub loop-i-preserved : goal.loop-i-preserved
loop-i-preserved c =
    let k = at_most c.args.self.now c.requires.sound c.child-entry.result.now.tree c.size.result c.from-size.result c.self.inside.trees c.child-entry.ensures.there (ap (λ (x : ListsOf). x.trees) c.self.view_is) c.size.ensures c.from-size.ensures in
    let s : (c.loop-i.i - 1) + 1 ≡ c.loop-i.i = omega arith in
    let e = nodes_step (entries_of c.args.self.now) (states_of (rule_at c.args.self.now.rules c.args.rule)) (ranks_from c.args.self.now c.args.rule c.args.start) c.requires.tuple.ranks
    (c.loop-i.i - 1) c.from-size.result c.loop-i.size (omega arith) (ap (λ (z : Tree ℕ × ℕ). size z.0) (sym c.child-entry.ensures.same) ∙ sym k.0)
    (c.loop-i.invariant.1 ∙ ap (nodes_from (entries_of c.args.self.now) (states_of (rule_at c.args.self.now.rules c.args.rule)) (ranks_from c.args.self.now c.args.rule c.args.start)) (sym s))
    in
    (omega arith, e, omega (arith, c.loop-i.invariant.2, k.1))
