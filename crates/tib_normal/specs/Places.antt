-- The states and rules of places, item by item.
use Rattle.std.specs.Prelude.{ℕ, ◌+◌, List, [], ◌∷◌, take, drop, sum_by}
use Rattle.std.proofs.Common.{suc}
use Rattle.tib_tree.specs.Trees.{Trees, none, tree, parse, count}
use Rattle.tib_grammar.specs.Sides.{Symbol, label, hole, over, labels_in}
use Rattle.tib_grammar.specs.Items.{pairs_of}
use Rattle.tib_grammar.specs.declared.Item.{Item}
use Rattle.tib_grammar.specs.declared.Item.TheVariants.{Label, Hole}
use Rattle.tib_grammar.specs.declared.Rule.{Rule}

-- the states at the roots of some sides, of which the labels have their own from s on
abbrev pub head_states : ℕ → Trees (Symbol ℕ ℕ) → List ℕ
head_states s none = []
head_states s (tree (hole q) kids rest) = q ∷ head_states s rest
head_states s (tree (label f) kids rest) = s ∷ head_states (suc s + labels_in kids) rest

-- one for a label
abbrev pub own_states : Item ℕ → ℕ
own_states (Label f rank) = 1
own_states (Hole q) = 0

-- the states at roots with an item before them, which has the state s of its own if it is a label
abbrev pub states_with : Item ℕ → ℕ → List ℕ → List ℕ
states_with (Label f rank) s states = s ∷ drop rank states
states_with (Hole q) s states = q ∷ states

-- the rule of an item's own state over the states after it
abbrev pub rules_with : Item ℕ → ℕ → List ℕ → ℕ → List (Rule ℕ)
rules_with (Label f rank) s states zero_cost =
    record { left = s; right = over f (take rank states); cost = zero_cost } ∷ []
rules_with (Hole q) s states zero_cost = []

-- what is below a root
abbrev pub below_root : List (Item ℕ) → Trees (Symbol ℕ ℕ)
below_root items = parse (drop 1 (pairs_of items))

-- how many labels occur below a rule's root
abbrev pub rule_labels : Rule ℕ → ℕ
rule_labels r = labels_in r.right.kids

-- the parts of the states and rules of the labels in some sides: one for a state, and two and the
-- rank for its rule
abbrev pub parts_in : Trees (Symbol ℕ ℕ) → ℕ
parts_in none = 0
parts_in (tree (label f) kids rest) = 3 + count kids + parts_in kids + parts_in rest
parts_in (tree (hole q) kids rest) = parts_in rest

-- the parts of an item's own state and its rule
abbrev pub own_parts : Item ℕ → ℕ
own_parts (Label f rank) = 3 + rank
own_parts (Hole q) = 0

-- the parts of the items below a root
abbrev pub parts_below : List (Item ℕ) → ℕ
parts_below items = sum_by own_parts (drop 1 items)

-- the parts of a rule's places
abbrev pub place_parts : Rule ℕ → ℕ
place_parts r = parts_in r.right.kids
