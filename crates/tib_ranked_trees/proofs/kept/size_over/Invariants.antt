use Rattle.std.proofs.Common.{◌≡◌, ◌+◌, ◌≤◌, drop, get_or}
use Rattle.std.specs.Prelude.{min}
use Rattle.tib_lex.specs.Lists.{total}
use Rattle.tib_ranked_trees.specs.Numbers.{most_size}
use Rattle.tib_ranked_trees.proofs.kept.size_over.Given as goal

abbrev pub invariant-loop-child : goal.invariant-loop-child
invariant-loop-child l =
    (l.size ≤ most_size)
    × (min (l.size + total (λ m. get_or l.sizes m 0) (drop l.child-index l.children)) most_size
    ≡ min (1 + total (λ m. get_or l.sizes m 0) l.children) most_size)
