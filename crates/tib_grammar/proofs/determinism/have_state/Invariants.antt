use Rattle.std.proofs.Common.{ℕ, ◌<◌, get_or}
use Rattle.tib_grammar.specs.declared.Item.TheVariants.{Label}
use Rattle.tib_grammar.proofs.Holes.{IsOther}
use Rattle.tib_grammar.proofs.determinism.have_state.Given as goal

abbrev pub invariant-loop-item : goal.invariant-loop-item
invariant-loop-item l = (k : ℕ) → k < l.item-index → IsOther l.state (get_or l.items k (Label 0 0))
