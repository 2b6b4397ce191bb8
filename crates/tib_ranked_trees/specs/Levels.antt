-- Level grammars, and how the order of trees with costs goes up the rules.
use Rattle.std.specs.Prelude.{◌≡◌, ℕ, ◌<◌, ◌⊎◌, List, [], ◌∷◌, ◌++◌, length, Bool, true, false, filter, map, nat_le}
use Rattle.tib_lex.specs.Lists.{Has}
use Rattle.tib_tree.specs.Trees.{Trees, none, tree}
use Rattle.tib_grammar.specs.Sides.{Symbol, label, hole, holes}
use Rattle.tib_grammar.specs.Run.{rule_at}
use Rattle.tib_grammar.specs.declared.Rule.{Rule}
use Rattle.tib_ranked_trees.specs.Best.{Cheaper, Costed}

-- a rule at no cost
abbrev pub free : Rule ℕ → Rule ℕ
free r = record { left = r.left; right = r.right; cost = 0 }

-- the rules of a level: those that cost no more, each at no cost
abbrev pub level : ℕ → List (Rule ℕ) → List (Rule ℕ)
level c rules = map free (filter (λ s. nat_le s.cost c) rules)

-- If the product is the greater cost, there is a level for each rule's cost; otherwise the grammar
-- is its one level.
abbrev pub IsLevel : Bool → List (Rule ℕ) → List (Rule ℕ) → Type 0
IsLevel true rules one = (r : Rule ℕ) × Has rules r × (one ≡ level r.cost rules)
IsLevel false rules one = one ≡ rules

-- the product is strict, or every rule costs nothing
abbrev pub IsOrderly : (ℕ → ℕ → ℕ) → List (Rule ℕ) → Type 0
IsOrderly product rules =
    ((a b c : ℕ) → b < c → product a b < product a c)
    ⊎ ((n : ℕ) → n < length rules → (rule_at rules n).cost ≡ 0)

-- the label at a root
abbrev pub root_of : Symbol ℕ ℕ → ℕ
root_of (label f) = f
root_of (hole p) = 0

-- the trees of a row, and the product of their costs
abbrev pub trees_of : List Costed → Trees ℕ
trees_of [] = none
trees_of (z ∷ zs) = tree z.0.label z.0.kids (trees_of zs)

abbrev pub total : (ℕ → ℕ → ℕ) → List Costed → ℕ
total product [] = 0
total product (z ∷ zs) = product z.1 (total product zs)

-- what a rule makes of trees with costs below it
abbrev pub made : (ℕ → ℕ → ℕ) → Rule ℕ → List Costed → Costed
made product r zs = (
  record { label = root_of r.right.label; kids = trees_of zs },
  product r.cost (total product zs),
)

-- the states of a rule in normal form
abbrev pub states_of : Rule ℕ → List ℕ
states_of r = holes r.right.kids

-- the states of the rule at a place
abbrev pub states_at : List (Rule ℕ) → ℕ → List ℕ
states_at rules n = states_of (rule_at rules n)

-- One rule's tree comes earlier if one child does, and never earlier than a child.
pub record GrowsAlongRules (product : ℕ → ℕ → ℕ) : Type 0 where
  pub grows :
      (labels : List (List ℕ)) (r : Rule ℕ) (front back : List Costed) (x z : Costed) →
      ((a b c : ℕ) → b < c → product a b < product a c) ⊎ (x.1 ≡ z.1) → Cheaper labels x z →
      Cheaper labels (made product r (front ++ x ∷ back)) (made product r (front ++ z ∷ back))
  pub before :
      (labels : List (List ℕ)) (r : Rule ℕ) (kids : List Costed) (z : Costed) → Has kids z →
      Cheaper labels z (made product r kids)
