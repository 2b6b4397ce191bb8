use Rattle.std.specs.Prelude.{◌≡◌, List, length, sum_by, take}
use Rattle.tib_ranked_trees.specs.declared.lists.Entry.{Entry}
use Rattle.tib_k_best.proofs.lazy_list.count_entries.Given as goal

abbrev pub invariant-loop-state : goal.invariant-loop-state
invariant-loop-state l = l.entries ≡ sum_by (λ (es : List Entry). length es) (take l.state l.lists.lists)
