use Rattle.std.proofs.Common.{◌≡◌, ◌++◌, map, take}
use Rattle.tib_grammar.specs.Items.{holes_in}
use Rattle.tib_apply.specs.BackwardLists.{variable_key}
use Rattle.tib_apply.proofs.placing.push_keys.Given as goal

abbrev pub invariant-loop-item : goal.invariant-loop-item
invariant-loop-item l = l.ends.items ≡ l.initial.ends.items ++ map (variable_key l.restrictions l.states) (holes_in (take l.item-index l.items))
