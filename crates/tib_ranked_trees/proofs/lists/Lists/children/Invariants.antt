use Rattle.std.specs.Prelude.{◌≡◌, ◌++◌, ℕ, List, length, drop}
use Rattle.tib_grammar.specs.Run.{rule_at}
use Rattle.tib_ranked_trees.specs.Numbers.{NumbersBelow}
use Rattle.tib_ranked_trees.specs.Levels.{states_of, trees_of}
use Rattle.tib_ranked_trees.specs.Pass.{picked}
use Rattle.tib_ranked_trees.specs.Seen.{row}
use Rattle.tib_ranked_trees.specs.Held.{entries_of, ranks_from}
use Rattle.tib_ranked_trees.proofs.lists.Lists.children.Given as goal

abbrev pub invariant-loop-i : goal.invariant-loop-i
invariant-loop-i l =
    NumbersBelow (length l.self.trees) l.children.items
    × ((rest : List ℕ) → row l.self.trees rest ≡ trees_of (picked (entries_of l.self) (drop l.i (states_of (rule_at l.self.rules l.rule))) (drop l.i (ranks_from l.self l.rule l.start))) →
    row l.self.trees (l.children.items ++ rest) ≡ trees_of (picked (entries_of l.self) (states_of (rule_at l.self.rules l.rule)) (ranks_from l.self l.rule l.start)))
