-- Items of right-hand sides, and their states.
use Rattle.std.specs.Prelude.{ℕ, List, map}
use Rattle.tib_grammar.specs.Items.{holes_in}
use Rattle.tib_grammar.specs.declared.Item.{Item}
use Rattle.tib_transducer.specs.declared.Pair.{Pair}

-- the states among some items
abbrev pub states_among : List (Item (Pair ℕ)) → List ℕ
states_among items = map (λ x. x.state) (holes_in items)
