use Rattle.std.proofs.Common.{◌≡◌, ◌<◌, ◌≤◌, ◌-◌, length}
use Rattle.tib_grammar.specs.Run.{rule_at}
use Rattle.tib_inside.specs.Reaching.{Marks, Follows}
use Rattle.tib_inside.proofs.reaching.follow.Given as goal

abbrev pub invariant-loop-n : goal.invariant-loop-n
invariant-loop-n l = record {
  within : l.n ≤ length l.rules;
  own : l.n < length l.rules → (rule_at l.rules l.n).left ≡ l.state;
  long : length l.kept.items ≡ length l.initial.kept.items;
  marks : Marks (Follows l.rules l.live l.state l.n) l.initial.kept.items l.kept.items l.initial.stack.items l.stack.items;
}

abbrev pub decreases-loop-n : goal.decreases-loop-n
decreases-loop-n l = length l.rules - l.n
