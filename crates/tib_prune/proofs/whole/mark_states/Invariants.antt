use Rattle.std.proofs.Common.{ℕ, ◌≡◌, ◌⊎◌, length, map}
use Rattle.tib_lex.specs.Lists.{Has}
use Rattle.tib_grammar.specs.Items.{state_in}
use Rattle.tib_inside.specs.Reaching.{IsMarked}
use Rattle.tib_prune.proofs.whole.mark_states.Given as goal

abbrev pub invariant-loop-item : goal.invariant-loop-item
invariant-loop-item l = record {
  long : length l.marks.items ≡ length l.initial.marks.items;
  only : (q : ℕ) → IsMarked l.marks.items q → IsMarked l.initial.marks.items q ⊎ Has (map state_in l.states) q;
}
