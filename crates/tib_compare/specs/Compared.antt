-- The result of a comparison of the supports of two grammars.
use Rattle.std.specs.Prelude.{◌≡◌, ◌⊎◌, ◌↔◌, ℕ, ◌<◌, ◌≤◌, max, List, length, Some}
use Rattle.std.specs.declared.cmp.Ordering.TheVariants.{Less}
use Rattle.tib_tree.specs.Trees.{Tree, size, most_nodes}
use Rattle.tib_tree.specs.Grows.{AreDistinct}
use Rattle.tib_grammar.specs.Run.{rule_at}
use Rattle.tib_grammar.specs.Series.{IsSeries}
use Rattle.tib_grammar.specs.declared.Rule.{Rule}
use Rattle.tib_grammar_file.specs.Printed.{AreLabelled}
use Rattle.tib_tree.specs.Order.{tree_cmp_by}
use Rattle.tib_compare.specs.declared.compared.Compared.{Compared}
use Rattle.tib_compare.specs.declared.compared.Compared.TheVariants.{Same, First, Second}

-- the tree is in the support: the grammar gives it a cost
abbrev pub HasCost : List (Rule ℕ) → Tree ℕ → Type 0
HasCost rules t = (c : ℕ) × IsSeries max rules t (Some c)

-- the tree has a cost in both grammars or in neither
abbrev pub Agree : List (Rule ℕ) → List (Rule ℕ) → Tree ℕ → Type 0
Agree one two t = HasCost one t ↔ HasCost two t

-- the tree has a cost in the one grammar and none in the other
abbrev pub IsOnlyIn : List (Rule ℕ) → List (Rule ℕ) → Tree ℕ → Type 0
IsOnlyIn one two t = HasCost one t × (HasCost two t → ⊥)

-- the tree has a cost in exactly one of the two
abbrev pub IsInOne : List (Rule ℕ) → List (Rule ℕ) → Tree ℕ → Type 0
IsInOne one two t = IsOnlyIn one two t ⊎ IsOnlyIn two one t

module _ (labels : List (List ℕ)) where
  -- The tree has a cost in the one grammar and none in the other, and in the order of trees each
  -- before it has one in both or in neither.
  pub record IsLeastOnly (one two : List (Rule ℕ)) (t : Tree ℕ) : Type 0 where
    pub only : IsOnlyIn one two t
    pub least : (u : Tree ℕ) → tree_cmp_by labels u t ≡ Less → Agree one two u

  -- every tree agrees; or the tree is the least that has a cost in the first alone, or in the
  -- second alone
  abbrev pub IsCompared : List (Rule ℕ) → List (Rule ℕ) → Compared → Type 0
  IsCompared one two Same = (t : Tree ℕ) → Agree one two t
  IsCompared one two (First t) = IsLeastOnly one two t
  IsCompared one two (Second t) = IsLeastOnly two one t

-- some tree has a cost in exactly one grammar, and each that has has more than 10,000 nodes
abbrev pub IsTooLarge : List (Rule ℕ) → List (Rule ℕ) → Type 0
IsTooLarge one two =
    ((t : Tree ℕ) × IsInOne one two t) × ((t : Tree ℕ) → IsInOne one two t → most_nodes < size t)

-- there is one result
abbrev pub HasOneAnswer : Type 0
HasOneAnswer =
    (labels : List (List ℕ)) → AreDistinct labels → (one two : List (Rule ℕ)) →
    AreLabelled (length labels) one → AreLabelled (length labels) two → (a b : Compared) →
    IsCompared labels one two a → IsCompared labels one two b → a ≡ b

-- the tree of a result is not too large
abbrev pub IsSmall : Compared → Type 0
IsSmall Same = Unit {0}
IsSmall (First t) = size t ≤ most_nodes
IsSmall (Second t) = size t ≤ most_nodes

-- and it excludes that the least tree is too large
abbrev pub ExcludesTooLarge : Type 0
ExcludesTooLarge =
    (labels : List (List ℕ)) (one two : List (Rule ℕ)) (a : Compared) → IsCompared labels one two a → IsSmall a →
    IsTooLarge one two → ⊥
