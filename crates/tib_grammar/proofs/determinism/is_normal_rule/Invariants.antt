use Rattle.std.proofs.Common.{ℕ, ◌<◌, get_or}
use Rattle.tib_grammar.specs.Items.{IsHole}
use Rattle.tib_grammar.specs.declared.Item.TheVariants.{Label}
use Rattle.tib_grammar.proofs.determinism.is_normal_rule.Given as goal

abbrev pub invariant-loop-item : goal.invariant-loop-item
invariant-loop-item l = (k : ℕ) → k < l.item-index → IsHole (get_or l.item-items k (Label 0 0))
