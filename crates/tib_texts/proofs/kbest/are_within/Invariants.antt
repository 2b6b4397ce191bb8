use Rattle.std.proofs.Common.{ℕ, ◌<◌, ◌≤◌, get_or}
use Rattle.tib_ranked_trees.specs.Pass.{no_entry}
use Rattle.tib_texts.proofs.kbest.are_within.Given as goal

abbrev pub invariant-loop-i : goal.invariant-loop-i
invariant-loop-i l = (j : ℕ) → j < l.i → (get_or l.list j no_entry).1 ≤ l.bound
