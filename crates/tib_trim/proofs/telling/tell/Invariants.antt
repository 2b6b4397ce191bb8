use Rattle.std.specs.Prelude.{ℕ, List}
use Rattle.std.proofs.Common.{◌≡◌, ◌<◌, ◌≤◌, ◌-◌, length, drop}
use Rattle.tib_grammar.specs.Run.{rule_at}
use Rattle.tib_inside.specs.Settling.{costs_in}
use Rattle.tib_prune.specs.Telling.{places_of, Adds}
use Rattle.tib_trim.specs.Telling.{IsToldAfter}
use Rattle.tib_trim.proofs.telling.tell.Given as goal

abbrev pub invariant-loop-n : goal.invariant-loop-n
invariant-loop-n g l = record {
  within : l.n ≤ length l.rules;
  own : l.n < length l.rules → (rule_at l.rules l.n).left ≡ l.fn.entry.1;
  tells :
      (final : List (ℕ × ℕ)) → Adds (costs_in l.outsides) (IsToldAfter g.S.Semiring.product (costs_in l.insides) l.rules l.fn.entry.1 l.fn.entry.0 l.n) (places_of (drop l.n l.rules)) l.agenda final →
      Adds (costs_in l.outsides) (IsToldAfter g.S.Semiring.product (costs_in l.insides) l.rules l.fn.entry.1 l.fn.entry.0 0) (places_of l.rules) l.initial.agenda final;
}

abbrev pub decreases-loop-n : goal.decreases-loop-n
decreases-loop-n g l = length l.rules - l.n
