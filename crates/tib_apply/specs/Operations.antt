-- Forward and backward application, as what is hunted.
use Rattle.std.specs.Prelude.{◌≡◌, ℕ, ◌+◌, List, length, map}
use Rattle.std.proofs.Common.{zero, suc}
use Rattle.std.specs.Ordering.{nat_cmp, ordering_then}
use Rattle.std.specs.declared.cmp.Ordering.{Ordering}
use Rattle.tib_lex.specs.Lists.{Has}
use Rattle.tib_tree.specs.Trees.{size}
use Rattle.tib_grammar.specs.Sides.{holes_of}
use Rattle.tib_grammar.specs.Range.{AreInRange}
use Rattle.tib_grammar.specs.GrammarOf.{named_rule}
use Rattle.tib_grammar.specs.declared.Rule.{Rule}
use Rattle.tib_expand.specs.Reached.{Exploration, IsReachedSet}
use Rattle.tib_key_edges.specs.Keyed.{keyed}
use Rattle.tib_expand.specs.Keys.{key_parts}
use Rattle.tib_transducer.specs.declared.TransducerRule.{TransducerRule}
use Rattle.tib_apply.specs.KeyGrammars.{key_at, IsKeyGrammar}
use Rattle.tib_apply.specs.Forward.{IsForwardEdge}
use Rattle.tib_apply.specs.Backward.{IsBackwardEdge}

-- by the first number, then the second, then the third
abbrev pub key_cmp : ℕ × ℕ × ℕ → ℕ × ℕ × ℕ → Ordering
key_cmp x y = ordering_then (nat_cmp x.0 y.0) (ordering_then (nat_cmp x.1 y.1) (nat_cmp x.2 y.2))

-- a key has its two states for entries, and its restriction where that is not 0
abbrev pub entries_with : ℕ → ℕ
entries_with zero = 2
entries_with (suc e) = 3

abbrev pub key_entries : ℕ × ℕ × ℕ → ℕ
key_entries k = entries_with k.2

-- the parts of an edge: one, and the nodes of its right-hand side
abbrev pub edge_parts : Rule (ℕ × ℕ × ℕ) → ℕ
edge_parts e = 1 + size e.right

-- From the key of the starts each key leads on along its edges.
abbrev pub key_operation : {O : Type 0} → (ℕ × ℕ × ℕ → O → Rule (ℕ × ℕ × ℕ) → Type 0) → Exploration (ℕ × ℕ × ℕ) O (Rule (ℕ × ℕ × ℕ))
key_operation Edge =
    keyed key_cmp (0, 0, 0) Edge (λ e. holes_of e.right) (key_parts key_entries) edge_parts

abbrev pub forward_image : (ℕ → ℕ → ℕ) → List (Rule ℕ) → List (TransducerRule ℕ) → Exploration (ℕ × ℕ × ℕ) (ℕ × List ℕ) (Rule (ℕ × ℕ × ℕ))
forward_image product grammar moves = key_operation (IsForwardEdge product grammar moves)

abbrev pub inverse_image : (ℕ → ℕ → ℕ) → List (TransducerRule ℕ) → List (Rule ℕ) → Exploration (ℕ × ℕ × ℕ) (ℕ × List ℕ) (Rule (ℕ × ℕ × ℕ))
inverse_image product moves grammar = key_operation (IsBackwardEdge product moves grammar)

-- the reached sets, as rules over the positions of their orders, are the grammars of the reached
-- keys
abbrev pub ForwardIsReached : (ℕ → ℕ → ℕ) → Type 0
ForwardIsReached product =
    (grammar : List (Rule ℕ)) (moves : List (TransducerRule ℕ)) (order : List (ℕ × ℕ × ℕ)) (rules : List (Rule ℕ)) → AreInRange (length order) rules →
    IsReachedSet (forward_image product grammar moves) order (map (named_rule (key_at order)) rules) → IsKeyGrammar (IsForwardEdge product grammar moves) order rules

abbrev pub BackwardIsReached : (ℕ → ℕ → ℕ) → Type 0
BackwardIsReached product =
    (moves : List (TransducerRule ℕ)) (grammar : List (Rule ℕ)) (order : List (ℕ × ℕ × ℕ)) (rules : List (Rule ℕ)) → AreInRange (length order) rules →
    IsReachedSet (inverse_image product moves grammar) order (map (named_rule (key_at order)) rules) → IsKeyGrammar (IsBackwardEdge product moves grammar) order rules

-- two reached sets have the same keys, in the same order, and the same edges
abbrev pub IsOneSet : Exploration (ℕ × ℕ × ℕ) (ℕ × List ℕ) (Rule (ℕ × ℕ × ℕ)) → Type 0
IsOneSet op =
    (order other : List (ℕ × ℕ × ℕ)) (edges more : List (Rule (ℕ × ℕ × ℕ))) → IsReachedSet op order edges → IsReachedSet op other more →
    (order ≡ other) × ((e : Rule (ℕ × ℕ × ℕ)) → Has edges e → Has more e)

abbrev pub OneSetEach : (ℕ → ℕ → ℕ) → Type 0
OneSetEach product =
    (grammar : List (Rule ℕ)) (moves : List (TransducerRule ℕ)) → IsOneSet (forward_image product grammar moves) × IsOneSet (inverse_image product moves grammar)
