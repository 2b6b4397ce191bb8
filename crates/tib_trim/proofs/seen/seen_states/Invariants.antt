use Rattle.std.proofs.Common.{◌≡◌, length, take}
use Rattle.tib_inside.specs.Renaming.{AreNumbersOf}
use Rattle.tib_trim.specs.FirstSeen.{states_of}
use Rattle.tib_trim.proofs.seen.seen_states.Given as goal

abbrev pub invariant-loop-rule : goal.invariant-loop-rule
invariant-loop-rule l = record {
  states : l.states.items ≡ states_of (take l.rule-index l.rules);
  numbers : AreNumbersOf l.states.items l.numbers.items;
  long : length l.numbers.items ≡ l.count;
}
