-- `kbest`: the cheapest trees of a grammar, each with its cost.
use Rattle.tib_cost.specs.declared.Scale.{Scale}
use Rattle.std.specs.Prelude.{◌≡◌, ℕ, ◌≤◌, Bool, List, [], ◌∷◌, ◌++◌, Some}
use Rattle.tib_lex.specs.Lists.{Each}
use Rattle.tib_tree.specs.Trees.{size, most_nodes}
use Rattle.tib_grammar.specs.GrammarOf.{GrammarOf}
use Rattle.tib_grammar.specs.declared.Rule.{Rule}
use Rattle.tib_inside.specs.Useful.{IsUseful}
use Rattle.tib_ranked_trees.specs.Best.{Costed, IsKBest, HasLarge}
use Rattle.tib_ranked_trees.specs.Levels.{IsLevel}
use Rattle.tib_canon.specs.TrimmedForms.{IsTrimmedForm}
use Rattle.tib_operations.specs.Made.{Made, normal_form, IsMadeFault}
use Rattle.tib_operations.specs.Text.{weighed_line}
use Rattle.tib_operations.specs.declared.status.Status.{Status}
use Rattle.tib_operations.specs.declared.status.Status.TheVariants as statuses

-- the line of a tree with its cost
abbrev pub costed_line : Scale → List (List ℕ) → Costed → List ℕ
costed_line scale labels x = weighed_line scale labels x.0 (Some x.1)

-- the lines of trees with their costs, in order
abbrev pub costed_lines : Scale → List (List ℕ) → List Costed → List ℕ
costed_lines scale labels [] = []
costed_lines scale labels (x ∷ xs) = costed_line scale labels x ++ costed_lines scale labels xs

-- no tree has more than 10,000 nodes
abbrev pub AreSmall : List Costed → Type 0
AreSmall xs = Each (λ x. size x.0 ≤ most_nodes) xs

-- The text has a line for each of the k cheapest trees of the grammar, by cost and then in the
-- order of trees: k lines, or one for each tree where there are fewer. None of these trees is too
-- large.
pub record HasKBestText (scale : Scale) (product : ℕ → ℕ → ℕ) (k : ℕ) (labels : List (List ℕ)) (g : GrammarOf) (text : List ℕ) : Type 0 where
  pub best : List Costed
  pub are_best : IsKBest product g.rules labels k best
  pub small : AreSmall best
  pub are : text ≡ costed_lines scale labels best

-- none of the k cheapest trees of the grammar is too large
abbrev pub ListsSmall : (ℕ → ℕ → ℕ) → ℕ → List (List ℕ) → GrammarOf → Type 0
ListsSmall product k labels g = (best : List Costed) → IsKBest product g.rules labels k best → AreSmall best

-- A state of the trimmed normal form, in some level of it where the product is the greater cost, is
-- useful there and has among its k cheapest trees one that is too large.
pub record HasLargeTree (levelled : Bool) (product : ℕ → ℕ → ℕ) (k : ℕ) (labels : List (List ℕ)) (g : GrammarOf) : Type 0 where
  pub form : GrammarOf
  pub is_form : IsTrimmedForm product g form
  pub rules : List (Rule ℕ)
  pub is_level : IsLevel levelled form.rules rules
  pub state : ℕ
  pub useful : IsUseful product rules state
  pub large : HasLarge product labels rules k state

-- the normal form of the grammar
abbrev pub kbest_makes : (ℕ → ℕ → ℕ) → ℕ → GrammarOf → Made
kbest_makes product limit g = normal_form product limit g

-- why there is no text: too many parts, or within the limit a tree that is too large, or out of
-- memory
abbrev pub IsKBestFault : Bool → (ℕ → ℕ → ℕ) → ℕ → ℕ → List (List ℕ) → GrammarOf → Status → Type 0
IsKBestFault levelled product limit k labels g statuses.TreeTooLarge =
    (kbest_makes product limit g).within × HasLargeTree levelled product k labels g
IsKBestFault levelled product limit k labels g status = IsMadeFault (kbest_makes product limit g).more limit status
