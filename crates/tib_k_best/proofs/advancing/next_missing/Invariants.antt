use Rattle.std.proofs.Common.{◌≤◌, length, ◌-◌}
use Rattle.tib_grammar.specs.Run.{rule_at}
use Rattle.tib_ranked_trees.specs.Levels.{states_of}
use Rattle.tib_k_best.specs.Queues.{HasTrees}
use Rattle.tib_k_best.proofs.advancing.next_missing.Given as goal

abbrev pub invariant-loop-place : goal.invariant-loop-place
invariant-loop-place l =
    (l.place ≤ length (states_of (rule_at l.lists.rules l.rule))) × HasTrees l.lists (states_of (rule_at l.lists.rules l.rule)) l.place

abbrev pub decreases-loop-place : goal.decreases-loop-place
decreases-loop-place l = l.count - l.place
