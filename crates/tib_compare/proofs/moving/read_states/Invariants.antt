use Rattle.std.proofs.Common.{◌≡◌, ◌+◌, ◌++◌}
use Rattle.std.specs.Prelude.{map, drop}
use Rattle.tib_grammar.specs.Items.{state_in}
use Rattle.tib_compare.proofs.moving.read_states.Given as goal

abbrev pub invariant-loop-item : goal.invariant-loop-item
invariant-loop-item l = l.states.items ++ map (λ q. l.by + q) (map state_in (drop l.item-index l.below)) ≡ map (λ q. l.by + q) (map state_in l.below)
