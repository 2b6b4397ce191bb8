-- The vectors that tell the two grammars apart, and the grammar of their trees.
use Rattle.std.specs.Prelude.{◌≡◌, ℕ, ◌+◌, ◌<◌, List, ◌++◌, length, map, filter, not, Bool, true, false, if◌then◌else◌, Option, None, Some, max}
use Rattle.std.proofs.Common.{get_or}
use Rattle.tib_tree.specs.Trees.{Tree}
use Rattle.tib_grammar.specs.Run.{rule_at}
use Rattle.tib_grammar.specs.declared.Rule.{Rule}
use Rattle.tib_determinize.specs.Lookup.{residual_in}
use Rattle.tib_determinize.specs.Vectors.{VectorOf}
use Rattle.tib_compare.specs.Beside.{moved}

abbrev pub is_there : Option ℕ → Bool
is_there None = false
is_there (Some r) = true

-- whether a state is in a vector
abbrev pub holds : ℕ → VectorOf → Bool
holds q v = is_there (residual_in q v)

-- whether exactly one of the two starts is in a vector: 0, and the first state of the second
-- grammar
abbrev pub differs : ℕ → VectorOf → Bool
differs second v = if holds 0 v then not (holds second v) else holds second v

-- What a node costs: a ten-thousandth of the greatest cost, so that a tree of more than 10,000
-- nodes has none.
abbrev pub node_cost : ℕ
node_cost = 100000000000

abbrev pub is_marked : List Bool → Rule ℕ → Bool
is_marked marks r = get_or marks r.left false

-- Rules over the positions of an order, each one more, and a fresh start, which is 0 and has the
-- rules of the marked positions.
abbrev pub wanted : List Bool → List (Rule ℕ) → List (Rule ℕ)
wanted marks rules =
    map (λ (r : Rule ℕ). moved (1 + r.left) 1 node_cost r) rules ++ map (λ r. moved 0 1 node_cost r) (filter (is_marked marks) rules)

-- each rule costs what a node costs
abbrev pub ArePriced : List (Rule ℕ) → Type 0
ArePriced rules = (n : ℕ) → n < length rules → (rule_at rules n).cost ≡ node_cost

-- some position is marked
abbrev pub HasMark : List Bool → Type 0
HasMark marks = (k : ℕ) × (k < length marks) × (get_or marks k false ≡ true)

-- none is
abbrev pub HasNoMark : List Bool → Type 0
HasNoMark marks = (k : ℕ) → k < length marks → get_or marks k false ≡ false
