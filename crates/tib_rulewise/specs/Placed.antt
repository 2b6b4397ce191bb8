-- Sides in which each hole carries something that depends on its place, and variables by place.
use Rattle.std.specs.Prelude.{ℕ, ◌+◌, List, [], ◌∷◌, length, None}
use Rattle.std.proofs.Common.{zero, suc}
use Rattle.tib_tree.specs.Trees.{Trees, none, tree, only, first_of}
use Rattle.tib_grammar.specs.Sides.{Symbol, label, hole, Side, holes}
use Rattle.tib_grammar.specs.declared.Item.{Item}
use Rattle.tib_grammar.specs.declared.Item.TheVariants.{Label, Hole}
use Rattle.tib_transducer.specs.declared.Variable.{Variable}

-- Sides in which each hole carries what g gives for its place and for what it carried. The places
-- are n, n + 1 and so on, in preorder.
abbrev pub placed : {P Q : Type 0} → (ℕ → P → Q) → ℕ → Trees (Symbol ℕ P) → Trees (Symbol ℕ Q)
placed g n none = none
placed g n (tree (label f) kids rest) =
    tree (label f) (placed g n kids) (placed g (n + length (holes kids)) rest)
placed g n (tree (hole p) kids rest) = tree (hole (g n p)) none (placed g (suc n) rest)

-- the same for one side, whose places are counted from 0
abbrev pub placed_side : {P Q : Type 0} → (ℕ → P → Q) → Side ℕ P → Side ℕ Q
placed_side g s = first_of (label 0) (placed g 0 (only s))

-- the same for the items of a side
abbrev pub placed_items : {P Q : Type 0} → (ℕ → P → Q) → ℕ → List (Item P) → List (Item Q)
placed_items g n [] = []
placed_items g n (Label f rank ∷ items) = Label f rank ∷ placed_items g n items
placed_items g n (Hole p ∷ items) = Hole (g n p) ∷ placed_items g (suc n) items

-- an item that carries what f gives for what it carried
abbrev pub item_with : {P Q : Type 0} → (P → Q) → Item P → Item Q
item_with f (Label g rank) = Label g rank
item_with f (Hole p) = Hole (f p)

-- the variable with a number, without a label
abbrev pub plain_variable : ℕ → Variable
plain_variable n = record { number = n; label = None }

-- the variables n, n + 1 and so on, this many
abbrev pub variables_from : ℕ → ℕ → List Variable
variables_from n zero = []
variables_from n (suc many) = plain_variable n ∷ variables_from (suc n) many
