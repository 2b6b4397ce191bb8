use Rattle.std.proofs.Common.{◌≡◌, ◌≤◌, ◌+◌, ◌*◌, length}
use Rattle.tib_grammar.specs.Run.{rule_at}
use Rattle.tib_ranked_trees.specs.Levels.{states_of}
use Rattle.tib_ranked_trees.specs.Held.{entries_of, ranks_from}
use Rattle.tib_ranked_trees.proofs.Offering.{nodes_from}
use Rattle.tib_ranked_trees.proofs.lists.Lists.size_of.Given as goal

abbrev pub invariant-loop-i : goal.invariant-loop-i
invariant-loop-i l =
    (l.i ≤ length (states_of (rule_at l.self.rules l.rule)))
    × (l.size ≡ nodes_from (entries_of l.self) (states_of (rule_at l.self.rules l.rule)) (ranks_from l.self l.rule l.start) l.i)
    × (l.size + 10000 * l.i ≤ 10000 * length (states_of (rule_at l.self.rules l.rule)) + 1)

abbrev pub decreases-loop-i : goal.decreases-loop-i
decreases-loop-i l = l.i
