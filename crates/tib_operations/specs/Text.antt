-- The text that a job writes.
use Rattle.tib_cost.specs.Scale.{is_weighted, weight_in}
use Rattle.tib_cost.specs.declared.Scale.{Scale}
use Rattle.std.specs.Prelude.{ℕ, List, [], ◌∷◌, ◌++◌, Option, None, Some, codes, decimal, if◌then◌else◌}
use Rattle.tib_tree.specs.Trees.{Tree}
use Rattle.tib_tree.specs.Printed.{tree_text}

-- what comes after a tree or a state: the weight of its cost, which in Boolean is not printed, or
-- that it has none
abbrev pub cost_text : Scale → Option ℕ → List ℕ
cost_text scale None = codes " # none\n"
cost_text scale (Some cost) = if is_weighted scale then codes " # " ++ decimal (weight_in scale cost) ++ codes "\n" else codes "\n"

-- the line of a weighed tree
abbrev pub weighed_line : Scale → List (List ℕ) → Tree ℕ → Option ℕ → List ℕ
weighed_line scale labels t cost = tree_text labels t ++ cost_text scale cost

-- the line of a state with its inside cost
abbrev pub inside_line : Scale → List ℕ → Option ℕ → List ℕ
inside_line scale name cost = name ++ cost_text scale cost

-- the lines of things with their costs, in order
abbrev pub lines_of_all : {A : Type 0} → (A → Option ℕ → List ℕ) → List A → List (Option ℕ) → List ℕ
lines_of_all line [] costs = []
lines_of_all line (x ∷ xs) [] = []
lines_of_all line (x ∷ xs) (cost ∷ costs) = line x cost ++ lines_of_all line xs costs

-- the lines of trees and their costs
abbrev pub weighed_lines : Scale → List (List ℕ) → List (Tree ℕ) → List (Option ℕ) → List ℕ
weighed_lines scale labels ts costs = lines_of_all (weighed_line scale labels) ts costs

-- the lines of states and their inside costs
abbrev pub inside_lines : Scale → List (List ℕ) → List (Option ℕ) → List ℕ
inside_lines scale names costs = lines_of_all (inside_line scale) names costs
