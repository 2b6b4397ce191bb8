use Rattle.tib_k_best.proofs.Counting.{are_counted}
use Rattle.tib_k_best.proofs.lazy_list.LazyList.of_lists.Goals as goal

pub invariant_of-result : goal.invariant_of-result
invariant_of-result c = are_counted c.args.lists c.requires.sound c.requires.start _ c.into_lists-trees.ensures.trees _ c.into_lists-trees.ensures.lists _ c.count_entries-steps.ensures
