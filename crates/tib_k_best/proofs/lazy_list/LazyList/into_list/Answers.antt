use Rattle.std.proofs.Common.{sym, subst}
use Rattle.tib_k_best.specs.Listing.{AreListed}
use Rattle.tib_k_best.proofs.ReadLists.{entries_at}
use Rattle.tib_k_best.proofs.lazy_list.LazyList.into_list.Goals as goal

pub over-requires : goal.over-requires
over-requires c =
    subst (AreListed c.self.inside.trees) (sym (entries_at c.self.inside.lists.items 0 c.swap_remove-entries.result c.self.invariant.some c.swap_remove-entries.ensures.value))
    (c.self.invariant.listed 0)
