use Rattle.std.proofs.Common.{◌≡◌, ◌++◌}
use Rattle.std.specs.Prelude.{map, drop}
use Rattle.tib_grammar.specs.Items.{state_in}
use Rattle.tib_k_best.proofs.levels.read_states.Given as goal

abbrev pub invariant-loop-item : goal.invariant-loop-item
invariant-loop-item l = l.states.items ++ map state_in (drop l.item-index l.below) ≡ map state_in l.below
