use Rattle.std.proofs.Common.{ℕ, List, length, get_or, ◌-◌, ◌<◌, ◌≤◌, ◌≡◌}
use Rattle.tib_normal.specs.Closure.{Spreads}
use Rattle.tib_normal.specs.Links.{AreLinks, no_key}
use Rattle.tib_normal.proofs.spread.add_lefts.Given as goal

abbrev pub invariant-loop-n : goal.invariant-loop-n
invariant-loop-n g l = record {
  within : l.n ≤ length l.rules;
  own : (keys : List ℕ) → length keys ≡ length l.rules → AreLinks keys (length l.links.first.items) l.links → l.n < length keys → get_or keys l.n no_key ≡ l.key;
  spreads :
      (keys : List ℕ) → length keys ≡ length l.rules → AreLinks keys (length l.links.first.items) l.links →
      Spreads g.S.Semiring.product l.rules keys l.key l.cost l.n l.initial.agenda l.agenda;
}

abbrev pub decreases-loop-n : goal.decreases-loop-n
decreases-loop-n g l = length l.rules - l.n
