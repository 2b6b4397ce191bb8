use Rattle.std.proofs.Common.{◌≡◌, ◌⊎◌, ◌<◌, ◌≤◌, ◌-◌, ◌^◌, length, take, min}
use Rattle.tib_lex.specs.Lists.{total}
use Rattle.tib_tree.specs.Trees.{size}
use Rattle.tib_weigh.proofs.pieces.first_with.Given as goal

abbrev pub invariant-loop-n : goal.invariant-loop-n
invariant-loop-n l = record {
  some : 1 ≤ l.n;
  within : l.n < length l.trees;
  counted : l.so_far ≡ min (total size (take l.n l.trees)) (2 ^ 64 - 1);
  needed : (l.n ≡ 1) ⊎ (total size (take (l.n - 1) l.trees) < l.nodes);
}

abbrev pub decreases-loop-n : goal.decreases-loop-n
decreases-loop-n l = length l.trees - l.n
