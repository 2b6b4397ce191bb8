use Rattle.std.specs.Prelude.{ℕ, List}
use Rattle.std.proofs.Common.{◌≡◌, ◌≤◌, length, drop, map}
use Rattle.tib_grammar.specs.Items.{state_in}
use Rattle.tib_inside.specs.Settling.{costs_in}
use Rattle.tib_prune.specs.Telling.{rests_of, IsToldFrom, Adds}
use Rattle.tib_prune.proofs.telling.tell_states.Given as goal

abbrev pub invariant-loop-rest : goal.invariant-loop-rest
invariant-loop-rest g l = record {
  within : l.n ≤ length l.states;
  rests : l.rests.items ≡ rests_of g.S.Semiring.product (costs_in l.insides) (drop l.n (map state_in l.states));
  tells :
      (final : List (ℕ × ℕ)) → Adds (costs_in l.outsides) (IsToldFrom g.S.Semiring.product (costs_in l.insides) l.front (drop l.n (map state_in l.states))) (length (drop l.n (map state_in l.states))) l.agenda final →
      Adds (costs_in l.outsides) (IsToldFrom g.S.Semiring.product (costs_in l.insides) l.fn.start (map state_in l.states)) (length (map state_in l.states)) l.initial.agenda final;
}

abbrev pub decreases-loop-rest : goal.decreases-loop-rest
decreases-loop-rest g l = length l.rests.items
