use Rattle.std.proofs.Common.{◌≡◌, ◌∷◌, ℕ, map}
use Rattle.std.specs.List.{range_with_len}
use Rattle.tib_grammar.specs.declared.Item.TheVariants.{Label, Hole}
use Rattle.tib_domain.specs.Reading.{plain}
use Rattle.tib_domain.proofs.any.plain_side.Given as goal

abbrev pub invariant-loop-number : goal.invariant-loop-number
invariant-loop-number l = l.items.items ≡ Label l.label l.rank ∷ map (λ (i : ℕ). Hole (plain i)) (range_with_len 0 l.number)
