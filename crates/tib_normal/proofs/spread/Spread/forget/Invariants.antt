use Rattle.std.proofs.Common.{length, [], ◌≡◌, vec_len}
use Rattle.tib_normal.specs.Closure.{AreListed}
use Rattle.tib_normal.proofs.spread.Spread.forget.Given as goal
use Rattle.tib_grammar.specs.Range.{AreBelow}

abbrev pub invariant-loop-state : goal.invariant-loop-state
invariant-loop-state l = record {
  long : length l.self.costs.items ≡ length l.initial.self.costs.items;
  below : AreBelow (length l.self.costs.items) l.self.reached.items;
  listed : AreListed l.self.costs.items l.self.reached.items;
  waiting : l.self.agenda ≡ [];
}

abbrev pub decreases-loop-state : goal.decreases-loop-state
decreases-loop-state l = vec_len l.self.reached
