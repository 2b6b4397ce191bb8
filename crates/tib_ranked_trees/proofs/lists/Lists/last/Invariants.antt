use Rattle.std.specs.Prelude.{◌≡◌, ◌<◌, ◌≤◌, ℕ, length}
use Rattle.std.proofs.Common.{get_or}
use Rattle.tib_grammar.specs.Run.{rule_at}
use Rattle.tib_ranked_trees.specs.Levels.{states_of}
use Rattle.tib_ranked_trees.specs.Held.{ranks_from}
use Rattle.tib_ranked_trees.proofs.lists.Lists.last.Given as goal

abbrev pub invariant-loop-i : goal.invariant-loop-i
invariant-loop-i l =
    (l.i ≤ length (states_of (rule_at l.self.rules l.rule)))
    × ((k : ℕ) → l.i ≤ k → k < length (ranks_from l.self l.rule l.start) → get_or (ranks_from l.self l.rule l.start) k 0 ≡ 0)

abbrev pub decreases-loop-i : goal.decreases-loop-i
decreases-loop-i l = l.i
