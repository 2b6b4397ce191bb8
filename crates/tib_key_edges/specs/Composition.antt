-- The composition of two transducers, as what is hunted.
use Rattle.std.specs.Prelude.{◌≡◌, ℕ, ◌+◌, ◌<◌, List, length, map, Option}
use Rattle.tib_lex.specs.Lists.{Has}
use Rattle.tib_lex.specs.PairOrder.{pair_cmp}
use Rattle.tib_tree.specs.Trees.{Trees, size}
use Rattle.tib_expand.specs.Reached.{Exploration, IsReachedSet}
use Rattle.tib_key_edges.specs.Keyed.{keyed}
use Rattle.tib_expand.specs.Keys.{key_parts}
use Rattle.tib_key_edges.specs.Ends.{key_at}
use Rattle.tib_transducer.specs.Rules.{states_in}
use Rattle.tib_key_edges.specs.Named.{named_transducer_rule}
use Rattle.tib_transducer.specs.Range.{AreWithin}
use Rattle.tib_key_edges.specs.Composing.{IsComposeEdge, IsComposite}
use Rattle.tib_transducer.specs.declared.TransducerRule.{TransducerRule}

-- the pairs at which an edge ends
abbrev pub ends_of : TransducerRule (ℕ × ℕ) → List (ℕ × ℕ)
ends_of e = states_in e.right

-- the parts of an edge: one, and the nodes of both sides
abbrev pub edge_parts : TransducerRule (ℕ × ℕ) → ℕ
edge_parts e = 1 + (size e.left + size e.right)

-- From the pair of the starts each pair leads on along each rule of the first transducer and each
-- choice that translates its right-hand side. A pair has three parts, and an edge one and the nodes
-- of both sides.
abbrev pub composition : (ℕ → ℕ → ℕ) → List (TransducerRule ℕ) → List (TransducerRule ℕ) → Exploration (ℕ × ℕ) (ℕ × Trees (Option ℕ)) (TransducerRule (ℕ × ℕ))
composition product one two =
    keyed pair_cmp (0, 0) (IsComposeEdge product one two) ends_of (key_parts (λ k. 2)) edge_parts

-- the reached set, as rules over the positions of its order, is the composite transducer
abbrev pub ReachedIsComposite : (ℕ → ℕ → ℕ) → Type 0
ReachedIsComposite product =
    (one two : List (TransducerRule ℕ)) (order : List (ℕ × ℕ)) (rules : List (TransducerRule ℕ)) →
    IsReachedSet (composition product one two) order (map (named_transducer_rule (key_at order)) rules) → AreWithin (length order) rules → IsComposite product one two order rules

-- two reached sets have the same pairs, in the same order, and the same edges
abbrev pub IsOneSet : (ℕ → ℕ → ℕ) → Type 0
IsOneSet product =
    (one two : List (TransducerRule ℕ)) (order other : List (ℕ × ℕ)) (edges more : List (TransducerRule (ℕ × ℕ))) →
    IsReachedSet (composition product one two) order edges → IsReachedSet (composition product one two) other more →
    (order ≡ other) × ((e : TransducerRule (ℕ × ℕ)) → Has edges e → Has more e)

-- the ends of an edge are within the states of the two transducers
abbrev pub EndsAreInRange : (ℕ → ℕ → ℕ) → Type 0
EndsAreInRange product =
    (one two : List (TransducerRule ℕ)) (m n : ℕ) → AreWithin m one → AreWithin n two →
    (key : ℕ × ℕ) (o : ℕ × Trees (Option ℕ)) (e : TransducerRule (ℕ × ℕ)) (k : ℕ × ℕ) → key.1 < n →
    IsComposeEdge product one two key o e → Has (ends_of e) k → (k.0 < m) × (k.1 < n)
