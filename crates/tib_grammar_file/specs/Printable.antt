-- Rules that can be printed.
use Rattle.tib_cost.specs.Scale.{is_weighted}
use Rattle.tib_cost.specs.declared.Scale.{Scale}
use Rattle.std.specs.Prelude.{◌≡◌, ◌<◌, ◌≤◌, ℕ, Bool, true, false, List, [], length}
use Rattle.std.proofs.Common.{get_or}
use Rattle.tib_lex.specs.Lines.{HasNoFeed}
use Rattle.tib_tree.specs.Trees.{Trees, none, tree, only}
use Rattle.tib_grammar.specs.Sides.{Symbol, label, hole}
use Rattle.tib_grammar.specs.Run.{rule_at}
use Rattle.tib_grammar.specs.declared.Rule.{Rule}
use Rattle.tib_cost.specs.Semiring.{most}

-- a cost that can be written: a weight within the limit, or none where weights are not kept
abbrev pub IsPlainIf : Bool → ℕ → Type 0
IsPlainIf true cost = cost ≤ most
IsPlainIf false cost = cost ≡ 0

abbrev pub IsPlainCost : Scale → ℕ → Type 0
IsPlainCost scale cost = IsPlainIf (is_weighted scale) cost

-- all labels of trees are in the table, and none of them has a line feed
abbrev pub HavePlainLabels : List (List ℕ) → Trees (Symbol ℕ ℕ) → Type 0
HavePlainLabels labels none = Unit {0}
HavePlainLabels labels (tree (label f) kids rest) =
    (f < length labels) × HasNoFeed (get_or labels f []) × HavePlainLabels labels kids
    × HavePlainLabels labels rest
HavePlainLabels labels (tree (hole q) kids rest) =
    HavePlainLabels labels kids × HavePlainLabels labels rest

-- A rule whose labels and whose cost can be written over a table of labels.
pub record IsPrintable (scale : Scale) (labels : List (List ℕ)) (r : Rule ℕ) : Type 0 where
  pub right : HavePlainLabels labels (only r.right)
  pub cost : IsPlainCost scale r.cost

-- each of the rules is one
abbrev pub ArePrintable : Scale → List (List ℕ) → List (Rule ℕ) → Type 0
ArePrintable scale labels rules =
    (m : ℕ) → m < length rules → IsPrintable scale labels (rule_at rules m)
