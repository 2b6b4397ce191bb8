-- The intersection of two grammars, as what is hunted.
use Rattle.std.specs.Prelude.{◌≡◌, ℕ, ◌<◌, List, length}
use Rattle.tib_grammar.specs.Sides.{label, holes, over}
use Rattle.tib_grammar.specs.Run.{rule_at}
use Rattle.tib_grammar.specs.declared.Rule.{Rule}
use Rattle.tib_lex.specs.Lists.{Has, IsReordering}
use Rattle.tib_lex.specs.PairOrder.{pair_cmp}
use Rattle.tib_expand.specs.Reached.{Exploration, IsReachedSet}
use Rattle.tib_key_edges.specs.Keyed.{keyed}
use Rattle.tib_expand.specs.Keys.{key_parts}
use Rattle.tib_intersect.specs.PairEdges.{IsPairEdge, ends_of, edge_parts}

-- From the pair of the starts each pair leads on along each two rules that agree in label and rank.
-- A pair has three parts, and an edge one and the nodes of its right-hand side.
abbrev pub intersection : (ℕ → ℕ → ℕ) → List (Rule ℕ) → List (Rule ℕ) → Exploration (ℕ × ℕ) (ℕ × ℕ) (Rule (ℕ × ℕ))
intersection product one two =
    keyed pair_cmp (0, 0) (IsPairEdge product one two) (λ e. ends_of e) (key_parts (λ k. 2)) (λ e. edge_parts e)

-- the right-hand side of the rule is the label of a rule of the list over as many states as there
pub record HasRootOf (rules : List (Rule ℕ)) (r : Rule ℕ) : Type 0 where
  pub position : ℕ
  pub below : position < length rules
  pub root : ℕ
  pub is_root : (rule_at rules position).right.label ≡ label root
  pub states : List ℕ
  pub rank : length states ≡ length (holes (rule_at rules position).right.kids)
  pub right : r.right ≡ over root states

-- the reached set is the same for lists of rules that differ in their order alone, and have no rule
-- twice
abbrev pub OrderIsFree : (ℕ → ℕ → ℕ) → Type 0
OrderIsFree product =
    (one two three four : List (Rule ℕ)) → IsReordering one three → IsReordering two four → (order : List (ℕ × ℕ)) (edges : List (Rule (ℕ × ℕ))) →
    IsReachedSet (intersection product one two) order edges → IsReachedSet (intersection product three four) order edges

-- two grammars reach the same pairs in the same order, and the same edges
abbrev pub IsOneSet : (ℕ → ℕ → ℕ) → Type 0
IsOneSet product =
    (one two : List (Rule ℕ)) (order other : List (ℕ × ℕ)) (edges more : List (Rule (ℕ × ℕ))) → IsReachedSet (intersection product one two) order edges →
    IsReachedSet (intersection product one two) other more → (order ≡ other) × ((e : Rule (ℕ × ℕ)) → Has edges e → Has more e)
