use Rattle.std.proofs.Common.{◌≡◌, ◌++◌, drop}
use Rattle.tib_grammar.specs.Items.{holes_in}
use Rattle.tib_transducer.specs.Counting.{numbers_in}
use Rattle.tib_domain.specs.Reading.{left_out, pairs_from, only_pairs}
use Rattle.tib_domain.proofs.reading.put_left_out.Given as goal

abbrev pub invariant-loop-item : goal.invariant-loop-item
invariant-loop-item l =
    l.tokens.items ++ only_pairs (pairs_from l.state (left_out (numbers_in l.right) (holes_in (drop l.item-index l.left))))
    ≡ l.initial.tokens.items ++ only_pairs (pairs_from l.state (left_out (numbers_in l.right) (holes_in l.left)))
