use Rattle.std.specs.Prelude.{◌≡◌, drop}
use Rattle.tib_grammar.specs.Run.{rule_at}
use Rattle.tib_ranked_trees.specs.Levels.{states_of, trees_of}
use Rattle.tib_ranked_trees.specs.Pass.{picked}
use Rattle.tib_ranked_trees.specs.Ordered.{kids_cmp}
use Rattle.tib_ranked_trees.specs.Held.{entries_of, ranks_of, tree_by}
use Rattle.tib_ranked_trees.proofs.lists.Lists.compare_children.Given as goal

abbrev pub invariant-loop-i : goal.invariant-loop-i
invariant-loop-i l =
    kids_cmp l.self.labels (tree_by l.self l.one.rule (ranks_of l.self l.one)).kids (tree_by l.self l.other.rule (ranks_of l.self l.other)).kids
    ≡ kids_cmp l.self.labels (trees_of (picked (entries_of l.self) (drop l.i (states_of (rule_at l.self.rules l.one.rule))) (drop l.i (ranks_of l.self l.one))))
    (trees_of (picked (entries_of l.self) (drop l.i (states_of (rule_at l.self.rules l.other.rule))) (drop l.i (ranks_of l.self l.other))))
