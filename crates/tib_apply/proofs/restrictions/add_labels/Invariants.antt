use Rattle.std.proofs.Common.{◌≡◌, drop}
use Rattle.tib_grammar.specs.Items.{holes_in}
use Rattle.tib_apply.specs.Restrictions.{labels_of}
use Rattle.tib_apply.specs.Gathering.{gathered}
use Rattle.tib_apply.proofs.restrictions.add_labels.Given as goal

abbrev pub invariant-loop-item : goal.invariant-loop-item
invariant-loop-item l = gathered l.labels.keys (labels_of (holes_in (drop l.item-index l.items))) ≡ gathered l.fn.labels.keys (labels_of (holes_in l.items))
