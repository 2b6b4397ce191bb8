use Rattle.std.proofs.Common.{◌≡◌, ◌++◌, drop}
use Rattle.tib_grammar.specs.Items.{holes_in}
use Rattle.tib_domain.specs.Reading.{only_pairs}
use Rattle.tib_domain.proofs.reading.put_pairs.Given as goal

abbrev pub invariant-loop-item : goal.invariant-loop-item
invariant-loop-item l = l.tokens.items ++ only_pairs (holes_in (drop l.item-index l.items)) ≡ l.initial.tokens.items ++ only_pairs (holes_in l.items)
