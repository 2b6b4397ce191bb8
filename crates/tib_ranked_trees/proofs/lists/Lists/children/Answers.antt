use Rattle.std.proofs.Common.{arith, ap}
use Rattle.std.specs.Prelude.{ℕ, length}
use Rattle.tib_tree.specs.Trees.{Tree}
use Rattle.tib_grammar.specs.Run.{rule_at}
use Rattle.tib_ranked_trees.specs.Levels.{states_of}
use Rattle.tib_ranked_trees.specs.Held.{entries_of, ranks_from}
use Rattle.tib_ranked_trees.proofs.Made.{comes_next, comes_all, below_snoc}
use Rattle.tib_ranked_trees.proofs.lists.Lists.children.Goals as goal

pub loop-i-preserved : goal.loop-i-preserved
loop-i-preserved c = (
  below_snoc (length c.args.self.now.trees) c.loop-i.children.items c.push.new.self.items c.child.result.now.tree c.in_ok-push.ensures.items c.loop-i.invariant.0 c.child.ensures.there,
  comes_next c.args.self.now.trees (entries_of c.args.self.now) (states_of (rule_at c.args.self.now.rules c.args.rule)) (ranks_from c.args.self.now c.args.rule c.args.start) c.loop-i.i
      c.loop-i.children.items c.push.new.self.items c.child.result.now.tree c.requires.tuple.ranks (omega (arith, c.count-count.ensures.many)) c.in_ok-push.ensures.items
      (ap (λ (z : Tree ℕ × ℕ). z.0) c.child.ensures.same) c.loop-i.invariant.1,
)

pub returns-clause-row : goal.returns-clause-row
returns-clause-row c =
    comes_all c.args.self.now.trees (entries_of c.args.self.now) (states_of (rule_at c.args.self.now.rules c.args.rule)) (ranks_from c.args.self.now c.args.rule c.args.start) c.loop-i.i
    c.loop-i.children.items (omega (arith, c.count-count.ensures.many)) c.loop-i.invariant.1
