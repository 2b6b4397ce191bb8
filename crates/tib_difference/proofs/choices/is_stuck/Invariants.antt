use Rattle.std.proofs.Common.{◌≡◌, ℕ, ◌<◌, [], map}
use Rattle.tib_grammar.specs.Items.{state_in}
use Rattle.tib_difference.specs.Tries.{choices_at}
use Rattle.tib_difference.proofs.choices.is_stuck.Given as goal

abbrev pub invariant-loop-place : goal.invariant-loop-place
invariant-loop-place l = (i : ℕ) → i < l.place → choices_at (map state_in l.states) l.walk.order.now l.walk.position l.walk.place i ≡ [] → ⊥
