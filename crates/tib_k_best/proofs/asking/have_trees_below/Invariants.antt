use Rattle.std.proofs.Common.{ℕ, ◌<◌, length}
use Rattle.tib_grammar.specs.Run.{rule_at}
use Rattle.tib_ranked_trees.specs.Levels.{states_of}
use Rattle.tib_k_best.specs.Queues.{HasTrees}
use Rattle.tib_k_best.proofs.asking.have_trees_below.Given as goal

abbrev pub invariant-loop-rule : goal.invariant-loop-rule
invariant-loop-rule l =
    (n : ℕ) → n < l.rule → HasTrees l.lists (states_of (rule_at l.lists.rules n)) (length (states_of (rule_at l.lists.rules n)))
