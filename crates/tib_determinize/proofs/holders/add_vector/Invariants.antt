use Rattle.std.proofs.Common.{◌≡◌, ℕ, ◌<◌, true, get_or}
use Rattle.tib_lex.specs.Lists.{Has}
use Rattle.tib_determinize.specs.Holders.{AscendUpTo, HoldMore, held, is_marked}
use Rattle.tib_determinize.proofs.holders.add_vector.Given as goal

abbrev pub invariant-loop-i : goal.invariant-loop-i
invariant-loop-i l = record {
  more : HoldMore l.initial.lists.items l.lists.items;
  own : (m : ℕ) → m < l.i → is_marked l.marks (get_or l.entries m (0, 0)).0 ≡ true → Has (held l.lists.items (get_or l.entries m (0, 0)).0) l.position;
  ascend : AscendUpTo l.position l.initial.lists.items → AscendUpTo l.position l.lists.items;
}
