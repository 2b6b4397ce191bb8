use Rattle.std.proofs.Common.{◌≡◌, ◌++◌, take, drop, map}
use Rattle.tib_grammar.specs.Renaming.{number_in, item_map}
use Rattle.tib_grammar.proofs.renaming.rename_items.Given as goal

abbrev pub invariant-loop-item : goal.invariant-loop-item
invariant-loop-item l = l.items ≡ map (item_map (number_in l.numbers)) (take l.item-index l.fn.items) ++ drop l.item-index l.fn.items
