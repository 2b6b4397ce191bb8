-- Items and rules under new numbers of states.
use Rattle.std.specs.Prelude.{ℕ, List}
use Rattle.std.proofs.Common.{get_or}
use Rattle.tib_grammar.specs.declared.Item.{Item}
use Rattle.tib_grammar.specs.declared.Item.TheVariants.{Label, Hole}

-- the number that a list has for a state
abbrev pub number_in : List ℕ → ℕ → ℕ
number_in numbers q = get_or numbers q 0

-- an item with its state replaced by another
abbrev pub item_map : (ℕ → ℕ) → Item ℕ → Item ℕ
item_map f (Label g rank) = Label g rank
item_map f (Hole q) = Hole (f q)
