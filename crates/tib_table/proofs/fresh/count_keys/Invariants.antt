use Rattle.std.proofs.Common.{◌≡◌, min, length, map, take}
use Rattle.tib_table.specs.Numbered.{all_on}
use Rattle.tib_table.proofs.fresh.count_keys.Given as goal

abbrev pub invariant-loop-shelf : goal.invariant-loop-shelf
invariant-loop-shelf g l = l.count ≡ min (length (all_on (map (λ v. v.items) (take l.shelf-index l.shelves)))) 18446744073709551615
