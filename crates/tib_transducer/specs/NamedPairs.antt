-- Pairs and items of right sides with their states exchanged.
use Rattle.tib_grammar.specs.declared.Item.{Item}
use Rattle.tib_grammar.specs.declared.Item.TheVariants.{Label, Hole}
use Rattle.tib_transducer.specs.declared.Pair.{Pair}

-- a pair with its state exchanged for what g gives of it
abbrev pub named_pair : {P Q : Type 0} → (P → Q) → Pair P → Pair Q
named_pair g x = record { state = g x.state; variable = x.variable }

-- an item with its state exchanged for what g gives of it
abbrev pub named_item : {P Q : Type 0} → (P → Q) → Item (Pair P) → Item (Pair Q)
named_item g (Label f rank) = Label f rank
named_item g (Hole x) = Hole (named_pair g x)
