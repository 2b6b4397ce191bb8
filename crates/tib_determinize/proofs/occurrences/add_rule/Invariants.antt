use Rattle.std.proofs.Common.{ℕ, ◌<◌}
use Rattle.tib_determinize.specs.Holders.{HoldMore}
use Rattle.tib_determinize.specs.Occurrences.{IsHeld}
use Rattle.tib_determinize.proofs.occurrences.add_rule.Given as goal

abbrev pub invariant-loop-place : goal.invariant-loop-place
invariant-loop-place l = record {
  more : HoldMore l.initial.lists.items l.lists.items;
  own : (j : ℕ) → j < l.place → IsHeld l.rules l.many l.lists.items l.rule j;
}
