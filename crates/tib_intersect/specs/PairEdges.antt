-- The edges of pairs of states (the product construction of tree automata, Comon et al. 2007).
use Rattle.std.specs.Prelude.{◌≡◌, ℕ, ◌<◌, ◌≤◌, ◌+◌, List, length, zip}
use Rattle.tib_tree.specs.Trees.{size}
use Rattle.tib_grammar.specs.Sides.{label, holes, holes_of, over}
use Rattle.tib_grammar.specs.Run.{rule_at}
use Rattle.tib_grammar.specs.declared.Rule.{Rule}
use Rattle.tib_cost.specs.Semiring.{most}

-- An edge of a pair of states: a rule of the one grammar from the first state and a rule of the
-- other from the second, with the same label over as many states, put together. It leads to the
-- pairs of their states, at the product of their costs, which is at most the greatest cost. Its
-- origin is the two positions.
pub record IsPairEdge (product : ℕ → ℕ → ℕ) (one two : List (Rule ℕ)) (key : ℕ × ℕ) (origin : ℕ × ℕ) (e : Rule (ℕ × ℕ)) : Type 0 where
  pub first : origin.0 < length one
  pub second : origin.1 < length two
  pub from : key ≡ ((rule_at one origin.0).left, (rule_at two origin.1).left)
  pub root : ℕ
  pub first_root : (rule_at one origin.0).right.label ≡ label root
  pub second_root : (rule_at two origin.1).right.label ≡ label root
  pub rank : length (holes (rule_at one origin.0).right.kids) ≡ length (holes (rule_at two origin.1).right.kids)
  pub left : e.left ≡ key
  pub right : e.right ≡ over root (zip (holes (rule_at one origin.0).right.kids) (holes (rule_at two origin.1).right.kids))
  pub costs : e.cost ≡ product (rule_at one origin.0).cost (rule_at two origin.1).cost
  pub within : e.cost ≤ most

-- the pairs at which an edge ends
abbrev pub ends_of : Rule (ℕ × ℕ) → List (ℕ × ℕ)
ends_of e = holes_of e.right

-- the parts of an edge: one, and the nodes of its right-hand side
abbrev pub edge_parts : Rule (ℕ × ℕ) → ℕ
edge_parts e = 1 + size e.right
