-- What the reached set of both grammars side by side gives.
use Rattle.std.specs.Prelude.{◌≡◌, ℕ, ◌<◌, List, length, map, true, false, Option, None, Some}
use Rattle.tib_tree.specs.Trees.{Tree}
use Rattle.tib_grammar.specs.declared.Rule.{Rule}
use Rattle.tib_determinize.specs.Vectors.{VectorOf, vector_at}
use Rattle.tib_compare.specs.Compared.{HasCost}
use Rattle.tib_compare.specs.Wanted.{differs, wanted}
use Rattle.tib_compare.specs.Least.{IsOfWanted}
use Rattle.tib_compare.specs.declared.compared.Compared.{Compared}
use Rattle.tib_compare.specs.declared.compared.Compared.TheVariants.{Same, First, Second}

-- the tree, by the grammar that gives it a cost: the first, or else the second
abbrev pub IsNamed : List (Rule ℕ) → Tree ℕ → Compared → Type 0
IsNamed left t Same = ⊥
IsNamed left t (First u) = (u ≡ t) × HasCost left t
IsNamed left t (Second u) = (u ≡ t) × (HasCost left t → ⊥)

-- a vector tells the two grammars apart
abbrev pub SomeDiffers : ℕ → List VectorOf → Type 0
SomeDiffers second order = (k : ℕ) × (k < length order) × (differs second (vector_at order k) ≡ true)

-- no vector does
abbrev pub NoneDiffers : ℕ → List VectorOf → Type 0
NoneDiffers second order = (k : ℕ) → k < length order → differs second (vector_at order k) ≡ false

-- the least tree of the vectors that tell them apart, or none where each of their trees is too
-- large
abbrev pub IsLeastTold : List (List ℕ) → ℕ → List VectorOf → List (Rule ℕ) → Option (Tree ℕ) → Type 0
IsLeastTold labels second order rules o = IsOfWanted labels (wanted (map (differs second) order) rules) o

-- what they give: that no vector tells them apart, or the least tree with its grammar, or that it
-- is too large
abbrev pub IsAnswerOf : List (List ℕ) → ℕ → List (Rule ℕ) → List VectorOf → List (Rule ℕ) → Option Compared → Type 0
IsAnswerOf labels second left order rules None = SomeDiffers second order × IsLeastTold labels second order rules None
IsAnswerOf labels second left order rules (Some Same) = NoneDiffers second order
IsAnswerOf labels second left order rules (Some (First t)) = IsLeastTold labels second order rules (Some t) × HasCost left t
IsAnswerOf labels second left order rules (Some (Second t)) = IsLeastTold labels second order rules (Some t) × (HasCost left t → ⊥)
