use Rattle.std.proofs.Common.{◌≡◌, ◌∷◌, map}
use Rattle.tib_grammar.specs.declared.Item.TheVariants.{Label, Hole}
use Rattle.tib_rulewise.specs.Placed.{variables_from}
use Rattle.tib_rulewise.proofs.sides.over_variables.Given as goal

abbrev pub invariant-loop-number : goal.invariant-loop-number
invariant-loop-number l = l.items.items ≡ Label l.label l.count ∷ map Hole (variables_from 0 l.number)
