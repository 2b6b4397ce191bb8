use Rattle.std.proofs.Common.{ℕ, ◌<◌, get_or}
use Rattle.tib_grammar.proofs.Holes.{IsBelow}
use Rattle.tib_grammar.specs.declared.Item.TheVariants.{Label}
use Rattle.tib_grammar.proofs.grammars.are_below.Given as goal

abbrev pub invariant-loop-item : goal.invariant-loop-item
invariant-loop-item l = (k : ℕ) → k < l.item-index → IsBelow l.n (get_or l.items k (Label 0 0))
