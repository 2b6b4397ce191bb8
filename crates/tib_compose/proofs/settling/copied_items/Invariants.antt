use Rattle.std.proofs.Common.{◌≡◌, take}
use Rattle.tib_compose.proofs.settling.copied_items.Given as goal

abbrev pub invariant-loop-item : goal.invariant-loop-item
invariant-loop-item l = l.copied.items ≡ take l.item-index l.items
