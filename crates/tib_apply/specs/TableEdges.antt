-- The edges of forward application, where the costs of what is left out are looked up in tables.
use Rattle.std.specs.Prelude.{◌≡◌, ◌↔◌, ℕ, ◌<◌, ◌≤◌, List, length, Some}
use Rattle.tib_grammar.specs.Sides.{label, side_map}
use Rattle.tib_grammar.specs.declared.Rule.{Rule}
use Rattle.tib_cost.specs.Semiring.{most}
use Rattle.tib_expand.specs.Reached.{Exploration, IsReachedSet}
use Rattle.tib_transducer.specs.Rules.{transducer_rule, variables_of, variables_in}
use Rattle.tib_transducer.specs.declared.TransducerRule.{TransducerRule}
use Rattle.tib_match.specs.Matches.{IsMatch}
use Rattle.tib_apply.specs.Restrictions.{restricted_labels, Admits}
use Rattle.tib_apply.specs.Forward.{forward_key, deleted, IsForwardEdge}
use Rattle.tib_apply.specs.LeastRuns.{AreLeastRuns, deleted_in}
use Rattle.tib_apply.specs.Operations.{key_operation, forward_image}
use Rattle.tib_apply.specs.declared.deleting.LeastRuns.{LeastRuns}

-- an edge of a key as `IsForwardEdge` has it, where the cost of what is left out is that of the
-- tables
pub record IsTableEdge (product : ℕ → ℕ → ℕ) (grammar : List (Rule ℕ)) (moves : List (TransducerRule ℕ))
    (runs : LeastRuns) (key : ℕ × ℕ × ℕ) (origin : ℕ × List ℕ) (e : Rule (ℕ × ℕ × ℕ)) : Type 0 where
  pub below : origin.0 < length moves
  pub state : (transducer_rule moves origin.0).state ≡ key.1
  pub root : ℕ
  pub is_root : (transducer_rule moves origin.0).left.label ≡ label root
  pub admitted : Admits (restricted_labels moves) key.2 root
  pub matched : ℕ
  pub is_match : IsMatch product grammar (transducer_rule moves origin.0).left key.0 origin.1 (Some matched)
  pub deleted_cost : ℕ
  pub is_deleted_cost :
      deleted_in product runs (deleted (variables_in (transducer_rule moves origin.0).right) (variables_of (transducer_rule moves origin.0).left) origin.1) ≡ Some deleted_cost
  pub left : e.left ≡ key
  pub right : e.right ≡ side_map (forward_key (restricted_labels moves) (transducer_rule moves origin.0).left origin.1) (transducer_rule moves origin.0).right
  pub costs : e.cost ≡ product (product (transducer_rule moves origin.0).cost matched) deleted_cost
  pub within : e.cost ≤ most

-- this as what is hunted
abbrev pub table_image : (ℕ → ℕ → ℕ) → List (Rule ℕ) → List (TransducerRule ℕ) → LeastRuns → Exploration (ℕ × ℕ × ℕ) (ℕ × List ℕ) (Rule (ℕ × ℕ × ℕ))
table_image product grammar moves runs = key_operation (IsTableEdge product grammar moves runs)

-- the edges of the tables are those of forward application, and what is reached along them is the
-- same
pub record AreForwardEdges (product : ℕ → ℕ → ℕ) (grammar : List (Rule ℕ)) (moves : List (TransducerRule ℕ))
    (runs : LeastRuns) : Type 0 where
  pub edges :
      (key : ℕ × ℕ × ℕ) (origin : ℕ × List ℕ) (e : Rule (ℕ × ℕ × ℕ)) →
      IsTableEdge product grammar moves runs key origin e ↔ IsForwardEdge product grammar moves key origin e
  pub reached :
      (order : List (ℕ × ℕ × ℕ)) (edges : List (Rule (ℕ × ℕ × ℕ))) →
      IsReachedSet (table_image product grammar moves runs) order edges
      ↔ IsReachedSet (forward_image product grammar moves) order edges

-- this holds where the tables have the least costs
abbrev pub TableEdgesAreForward : (ℕ → ℕ → ℕ) → Type 0
TableEdgesAreForward product =
    (grammar : List (Rule ℕ)) (moves : List (TransducerRule ℕ)) (runs : LeastRuns) →
    AreLeastRuns product grammar runs → AreForwardEdges product grammar moves runs
