-- The difference of two grammars, as what is hunted: a state of the first with the set of the
-- states of the second from which the same tree has runs.
use Rattle.std.specs.Prelude.{◌≡◌, ℕ, ◌+◌, ◌<◌, ◌≤◌, List, [], ◌∷◌, length, map}
use Rattle.std.proofs.Common.{get_or}
use Rattle.std.specs.Cmp.Lexicographic.{slice_cmp}
use Rattle.std.specs.Ordering.{nat_cmp, ordering_then}
use Rattle.std.specs.declared.cmp.Ordering.{Ordering}
use Rattle.tib_lex.specs.Lists.{Has, Each, Ascends, IsReordering}
use Rattle.tib_tree.specs.Trees.{size}
use Rattle.tib_grammar.specs.Sides.{label, holes, over}
use Rattle.tib_grammar.specs.Run.{rule_at}
use Rattle.tib_grammar.specs.declared.Rule.{Rule}
use Rattle.tib_expand.specs.Reached.{Exploration, exploration, IsReachedSet}
use Rattle.tib_expand.specs.Keys.{key_parts}
use Rattle.tib_difference.specs.Subsets.{SubsetOf, IsSubset}

-- a state of the first grammar, and a set of states of the second
abbrev pub KeyOf : Type 0
KeyOf = ℕ × SubsetOf

-- first by the states, then by the sets, member by member; of two sets of which one begins the
-- other, it comes first, and so the empty set before all
abbrev pub key_cmp : KeyOf → KeyOf → Ordering
key_cmp k l = ordering_then (nat_cmp k.0 l.0) (slice_cmp nat_cmp k.1 l.1)

-- the states, and the sets, of some keys
abbrev pub states_of : List KeyOf → List ℕ
states_of keys = map (λ k. k.0) keys

abbrev pub subsets_of : List KeyOf → List SubsetOf
subsets_of keys = map (λ k. k.1) keys

-- the key at a position of an order, and those at some positions
abbrev pub key_at : List KeyOf → ℕ → KeyOf
key_at order p = get_or order p (0, [])

abbrev pub keys_at : List KeyOf → List ℕ → List KeyOf
keys_at order ps = map (key_at order) ps

-- The edge of a rule of the first grammar over keys with the states of its right-hand side: the
-- rule with these keys in place of the states. It leads from the rule's left state with the set of
-- the states of the second grammar that lead to its label over the sets of the keys.
pub record IsEdgeOver (one two : List (Rule ℕ)) (rule : ℕ) (keys : List KeyOf) (e : Rule KeyOf) : Type 0 where
  pub below : rule < length one
  pub root : ℕ
  pub is_root : (rule_at one rule).right.label ≡ label root
  pub states : holes (rule_at one rule).right.kids ≡ states_of keys
  pub left : e.left.0 ≡ (rule_at one rule).left
  pub subset : IsSubset two root (subsets_of keys) e.left.1
  pub right : e.right ≡ over root keys
  pub cost : e.cost ≡ (rule_at one rule).cost

-- an edge of the seeds, over no key; its origin is the rule
pub record IsSeedEdge (one two : List (Rule ℕ)) (origin : ℕ × List ℕ) (e : Rule KeyOf) : Type 0 where
  pub none : origin.1 ≡ []
  pub edge : IsEdgeOver one two origin.0 [] e

-- an edge of position n of an order, over the keys at some positions up to n, among which n is; its
-- origin is the rule and the positions
pub record IsEdgeAt (one two : List (Rule ℕ)) (order : List KeyOf) (n : ℕ) (origin : ℕ × List ℕ) (e : Rule KeyOf) : Type 0 where
  pub up_to : Each (λ p. p ≤ n) origin.1
  pub stands : Has origin.1 n
  pub edge : IsEdgeOver one two origin.0 (keys_at order origin.1) e

-- a key from which an edge over no key leads
abbrev pub IsSeed : List (Rule ℕ) → List (Rule ℕ) → KeyOf → Type 0
IsSeed one two k = (rule : ℕ) × (e : Rule KeyOf) × IsEdgeOver one two rule [] e × (e.left ≡ k)

-- an edge ends at the key from which it leads
abbrev pub ends_of : Rule KeyOf → List KeyOf
ends_of e = e.left ∷ []

-- the parts of an edge: one, and the nodes of its right-hand side
abbrev pub edge_parts : Rule KeyOf → ℕ
edge_parts e = 1 + size e.right

-- how many entries a key has: one for its state, and one for each state of its set
abbrev pub key_entries : KeyOf → ℕ
key_entries k = 1 + length k.1

-- From the keys of the rules without states, each position leads on along each rule over keys up to
-- there. A key has one part, and one for each of its entries.
abbrev pub difference : List (Rule ℕ) → List (Rule ℕ) → Exploration KeyOf (ℕ × List ℕ) (Rule KeyOf)
difference one two =
    exploration (λ k l. key_cmp k l) (IsSeed one two) (IsSeedEdge one two) (IsEdgeAt one two) (λ e. ends_of e) (key_parts (λ k. key_entries k)) (λ e. edge_parts e)

-- a key that may be in an order: its state is one of the first grammar, and its set has states of
-- the second, ascending
pub record IsKey (ones twos : ℕ) (k : KeyOf) : Type 0 where
  pub state : k.0 < ones
  pub ascends : Ascends ◌<◌ k.1
  pub below : Each (λ q. q < twos) k.1

-- the reached set is the same for lists of rules that differ in their order alone, and have no rule
-- twice
abbrev pub OrderIsFree : Type 0
OrderIsFree =
    (one two three four : List (Rule ℕ)) → IsReordering one three → IsReordering two four → (order : List KeyOf) (edges : List (Rule KeyOf)) →
    IsReachedSet (difference one two) order edges → IsReachedSet (difference three four) order edges

-- two grammars reach the same keys in the same order, and the same edges
abbrev pub IsOneSet : Type 0
IsOneSet =
    (one two : List (Rule ℕ)) (order other : List KeyOf) (edges more : List (Rule KeyOf)) → IsReachedSet (difference one two) order edges →
    IsReachedSet (difference one two) other more → (order ≡ other) × ((e : Rule KeyOf) → Has edges e → Has more e)
