use Rattle.std.proofs.Common.{◌≡◌, ◌≤◌, length}
use Rattle.tib_strings.specs.Stacks.{back, to_come}
use Rattle.tib_strings.proofs.stepping.find_cut.Given as goal

abbrev pub invariant-loop : goal.invariant-loop
invariant-loop l = record {
  begun : length l.places.items ≤ length l.tokens;
  same : to_come l.string l.tokens l.from l.to (back l.initial.places.items) ≡ to_come l.string l.tokens l.from l.to (back l.places.items);
}
