-- What goes into the list of the edges of backward application.
use Rattle.std.specs.Prelude.{◌≡◌, ℕ, ◌+◌, List, [], ◌∷◌, ◌++◌, ◌≤◌}
use Rattle.std.proofs.Common.{get_or}
use Rattle.tib_lex.specs.Lists.{Has}
use Rattle.tib_cost.specs.Semiring.{most}
use Rattle.tib_grammar.specs.Sides.{label, holes_of, side_map}
use Rattle.tib_grammar.specs.declared.Rule.{Rule}
use Rattle.tib_grammar.specs.declared.Item.{Item}
use Rattle.tib_grammar.specs.declared.Item.TheVariants.{Label, Hole}
use Rattle.tib_transducer.specs.declared.Variable.{Variable}
use Rattle.tib_transducer.specs.declared.TransducerRule.{TransducerRule}
use Rattle.tib_apply.specs.Restrictions.{restriction, Admits}
use Rattle.tib_apply.specs.Backward.{IsBackwardEdge, backward_key}
use Rattle.tib_apply.specs.Listing.{AreListedFor, Overruns}
use Rattle.tib_apply.specs.declared.edge_list.EdgeList.{EdgeList}

-- the edge of a key to which a rule and the states at its pairs lead, at a cost
abbrev pub edge_to : List ℕ → ℕ × ℕ × ℕ → TransducerRule ℕ → List ℕ → ℕ → Rule (ℕ × ℕ × ℕ)
edge_to labels key rule states cost = record { left = key; right = side_map (backward_key labels (holes_of rule.right) states) rule.left; cost = cost }

-- the edge that a rule and a match of its right-hand side make of a key
abbrev pub backward_edge : (ℕ → ℕ → ℕ) → List ℕ → ℕ × ℕ × ℕ → TransducerRule ℕ → List ℕ × ℕ → Rule (ℕ × ℕ × ℕ)
backward_edge product labels key rule m = edge_to labels key rule m.0 (product rule.cost m.1)

-- the cost of a match with that of the rule is no more than the greatest
abbrev pub IsCheap : (ℕ → ℕ → ℕ) → TransducerRule ℕ → List ℕ × ℕ → Type 0
IsCheap product rule m = product rule.cost m.1 ≤ most

-- the restriction of the key admits the label with which the left-hand side of the rule begins
abbrev pub AdmitsRule : List ℕ → ℕ × ℕ × ℕ → TransducerRule ℕ → Type 0
AdmitsRule labels key rule = (root : ℕ) × (rule.left.label ≡ label root) × Admits labels key.2 root

-- the key of a variable, where the states of its pair are listed by the variables' numbers
abbrev pub variable_key : List ℕ → List (ℕ × ℕ) → Variable → ℕ × ℕ × ℕ
variable_key labels states x = ((get_or states x.number (0, 0)).0, (get_or states x.number (0, 0)).1, restriction labels x.label)

-- an item with a number in place of what it carries
abbrev pub item_with : {P : Type 0} → (P → ℕ) → Item P → Item ℕ
item_with f (Label g rank) = Label g rank
item_with f (Hole p) = Hole (f p)

-- the number of a variable, counted from n
abbrev pub number_from : ℕ → Variable → ℕ
number_from n x = n + x.number

module _ (product : ℕ → ℕ → ℕ) (moves : List (TransducerRule ℕ)) (grammar : List (Rule ℕ)) (key : ℕ × ℕ × ℕ) where
  -- a list of the edges of rules at other positions gets those of the rule at one
  abbrev pub ListsMove : ℕ → EdgeList → EdgeList → Type 0
  ListsMove position old new =
      (others : List ℕ) → (Has others position → ⊥) → AreListedFor (IsBackwardEdge product moves grammar key) key others old →
      AreListedFor (IsBackwardEdge product moves grammar key) key (others ++ position ∷ []) new

  -- some edges of the key have more parts than the budget
  abbrev pub MovesOverrun : ℕ → Type 0
  MovesOverrun budget = Overruns (IsBackwardEdge product moves grammar key) budget

  -- with the edges of the rule at a position these are more than the budget
  abbrev pub MoveOverruns : ℕ → EdgeList → Type 0
  MoveOverruns position old =
      (others : List ℕ) → (Has others position → ⊥) → AreListedFor (IsBackwardEdge product moves grammar key) key others old → MovesOverrun old.budget
