-- Determinization by residuals, as what is hunted.
use Rattle.std.specs.Prelude.{◌≡◌, ◌≢◌, ℕ, ◌+◌, ◌<◌, ◌≤◌, List, [], ◌∷◌, length, take}
use Rattle.std.specs.Cmp.Lexicographic.{slice_cmp}
use Rattle.std.specs.declared.cmp.Ordering.{Ordering}
use Rattle.tib_lex.specs.Lists.{Has, Each}
use Rattle.tib_lex.specs.PairOrder.{pair_cmp}
use Rattle.tib_tree.specs.Trees.{size}
use Rattle.tib_grammar.specs.Sides.{over}
use Rattle.tib_grammar.specs.Run.{rule_at}
use Rattle.tib_grammar.specs.declared.Rule.{Rule}
use Rattle.tib_expand.specs.Reached.{Exploration, exploration, IsReachedSet}
use Rattle.tib_expand.specs.Keys.{key_parts}
use Rattle.tib_determinize.specs.Vectors.{VectorOf, Rises, IsStep, vectors_at}

abbrev pub vector_cmp : VectorOf → VectorOf → Ordering
vector_cmp v w = slice_cmp pair_cmp v w

-- the edge of a label over no vector; its origin is the label
pub record IsVectorSeed (product : ℕ → ℕ → ℕ) (rules : List (Rule ℕ)) (origin : ℕ × List ℕ) (e : Rule VectorOf) : Type 0 where
  pub none : origin.1 ≡ []
  pub step : IsStep product rules origin.0 [] e.cost e.left
  pub right : e.right ≡ over origin.0 []

-- An edge of position n of an order: the step of a label over the vectors at some positions up to
-- n, among which n is. Its origin is the label and the positions.
pub record IsVectorEdge (product : ℕ → ℕ → ℕ) (rules : List (Rule ℕ)) (order : List VectorOf) (n : ℕ) (origin : ℕ × List ℕ) (e : Rule VectorOf) : Type 0 where
  pub up_to : Each (λ p. p ≤ n) origin.1
  pub stands : Has origin.1 n
  pub step : IsStep product rules origin.0 (vectors_at order origin.1) e.cost e.left
  pub right : e.right ≡ over origin.0 (vectors_at order origin.1)

-- a vector that a label over no vector steps to
abbrev pub IsSeed : (ℕ → ℕ → ℕ) → List (Rule ℕ) → VectorOf → Type 0
IsSeed product rules v = (f : ℕ) × (m : ℕ) × IsStep product rules f [] m v

-- an edge ends at the vector that it steps to
abbrev pub ends_of : Rule VectorOf → List VectorOf
ends_of e = e.left ∷ []

-- the parts of an edge: one, and the nodes of its right-hand side
abbrev pub edge_parts : Rule VectorOf → ℕ
edge_parts e = 1 + size e.right

-- From the vectors of the labels over none, each position leads on along each label over the
-- vectors up to there. A vector has one part and one for each of its states.
abbrev pub determinization : (ℕ → ℕ → ℕ) → List (Rule ℕ) → Exploration VectorOf (ℕ × List ℕ) (Rule VectorOf)
determinization product rules =
    exploration (λ v w. vector_cmp v w) (IsSeed product rules) (IsVectorSeed product rules) (IsVectorEdge product rules) (λ e. ends_of e)
    (key_parts (λ v. length v)) (λ e. edge_parts e)

-- a vector that may be in an order: its states ascend and are below a number, and it has one
pub record IsVector (states : ℕ) (v : VectorOf) : Type 0 where
  pub some : v ≢ []
  pub rises : Rises v
  pub below : Each (λ x. x.0 < states) v

-- What a hunt asks of its operation. The rules lead from states below a number.
pub record KeepsItsLaws (product : ℕ → ℕ → ℕ) (states : ℕ) (rules : List (Rule ℕ)) : Type 0 where
  pub one_seed_edge : (o : ℕ × List ℕ) (e f : Rule VectorOf) → IsVectorSeed product rules o e → IsVectorSeed product rules o f → e ≡ f
  pub one_edge : (order : List VectorOf) (n : ℕ) (o : ℕ × List ℕ) (e f : Rule VectorOf) → IsVectorEdge product rules order n o e → IsVectorEdge product rules order n o f → e ≡ f
  pub seeds_end : (o : ℕ × List ℕ) (e : Rule VectorOf) (v : VectorOf) → IsVectorSeed product rules o e → Has (ends_of e) v → IsSeed product rules v
  pub seeds_admitted : (v : VectorOf) → IsSeed product rules v → IsVector states v
  pub ends_admitted : (order : List VectorOf) (n : ℕ) (o : ℕ × List ℕ) (e : Rule VectorOf) (v : VectorOf) → IsVectorEdge product rules order n o e → Has (ends_of e) v → IsVector states v
  pub edges_stay :
      (xs ys : List VectorOf) (n : ℕ) (o : ℕ × List ℕ) (e : Rule VectorOf) → take (n + 1) xs ≡ take (n + 1) ys → IsVectorEdge product rules xs n o e → IsVectorEdge product rules ys n o e

-- the left states of the rules are below a number
abbrev pub LeftsBelow : ℕ → List (Rule ℕ) → Type 0
LeftsBelow states rules = (n : ℕ) → n < length rules → (rule_at rules n).left < states

-- what a hunt asks of its operation holds of determinization
abbrev pub IsAnOperation : (ℕ → ℕ → ℕ) → Type 0
IsAnOperation product = (states : ℕ) (rules : List (Rule ℕ)) → LeftsBelow states rules → KeepsItsLaws product states rules

-- a label over some vectors has at most one step
abbrev pub HasOneStep : (ℕ → ℕ → ℕ) → Type 0
HasOneStep product =
    (rules : List (Rule ℕ)) (f : ℕ) (vs : List VectorOf) (m n : ℕ) (v w : VectorOf) → IsStep product rules f vs m v → IsStep product rules f vs n w → (m ≡ n) × (v ≡ w)

-- a grammar has at most one reached set: one order of vectors, and the same edges
abbrev pub IsOneSet : (ℕ → ℕ → ℕ) → Type 0
IsOneSet product =
    (rules : List (Rule ℕ)) (order other : List VectorOf) (edges more : List (Rule VectorOf)) → IsReachedSet (determinization product rules) order edges →
    IsReachedSet (determinization product rules) other more → (order ≡ other) × ((e : Rule VectorOf) → Has edges e → Has more e)
