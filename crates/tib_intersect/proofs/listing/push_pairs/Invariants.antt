use Rattle.std.proofs.Common.{◌≡◌, ◌++◌, map, take}
use Rattle.std.specs.Prelude.{zip}
use Rattle.tib_grammar.specs.Items.{state_in}
use Rattle.tib_intersect.proofs.listing.push_pairs.Given as goal

abbrev pub invariant-loop-i : goal.invariant-loop-i
invariant-loop-i l = l.ends.items ≡ l.initial.ends.items ++ take l.i (zip (map state_in l.one) (map state_in l.two))
