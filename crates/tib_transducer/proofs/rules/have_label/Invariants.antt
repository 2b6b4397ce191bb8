use Rattle.std.proofs.Common.{drop}
use Rattle.tib_grammar.specs.Items.{holes_in}
use Rattle.tib_transducer.specs.Counting.{HaveLabel}
use Rattle.tib_transducer.proofs.rules.have_label.Given as goal

abbrev pub invariant-loop-item : goal.invariant-loop-item
invariant-loop-item l = HaveLabel (holes_in l.items) → HaveLabel (holes_in (drop l.item-index l.items))
