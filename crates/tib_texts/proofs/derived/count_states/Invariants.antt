use Rattle.std.proofs.Common.{◌≡◌, length, take}
use Rattle.tib_grammar.specs.Items.{holes_in}
use Rattle.tib_texts.proofs.derived.count_states.Given as goal

abbrev pub invariant-loop-item : goal.invariant-loop-item
invariant-loop-item l = l.count ≡ length (holes_in (take l.item-index l.items))
