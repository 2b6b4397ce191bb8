use Rattle.std.proofs.Common.{◌≡◌, ◌<◌, ℕ, get_or}
use Rattle.tib_grammar.specs.declared.Item.TheVariants.{Label}
use Rattle.tib_grammar.specs.Items.{state_in}
use Rattle.tib_weigh.proofs.ready.agree_beside.Given as goal

abbrev pub invariant-loop-i : goal.invariant-loop-i
invariant-loop-i l = (k : ℕ) → k < l.i → (k ≡ l.place → ⊥) → state_in (get_or l.first k (Label 0 0)) ≡ state_in (get_or l.second k (Label 0 0))
