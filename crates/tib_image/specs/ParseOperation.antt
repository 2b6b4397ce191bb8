-- Parsing, as what is hunted.
use Rattle.std.specs.Prelude.{◌≡◌, ◌↔◌, ℕ, ◌+◌, ◌<◌, ◌≤◌, List, length, map, Option}
use Rattle.std.proofs.Common.{zero, suc}
use Rattle.std.specs.Ordering.{nat_cmp, ordering_then}
use Rattle.std.specs.declared.cmp.Ordering.{Ordering}
use Rattle.tib_lex.specs.Lists.{Has}
use Rattle.tib_tree.specs.Trees.{Tree, size}
use Rattle.tib_grammar.specs.Sides.{holes_of}
use Rattle.tib_grammar.specs.Range.{AreInRange}
use Rattle.tib_grammar.specs.Series.{IsSeries}
use Rattle.tib_grammar.specs.GrammarOf.{named_rule}
use Rattle.tib_grammar.specs.declared.Rule.{Rule}
use Rattle.tib_expand.specs.Reached.{Exploration, IsReached, IsReachedSet}
use Rattle.tib_key_edges.specs.Keyed.{keyed}
use Rattle.tib_expand.specs.Keys.{key_parts}
use Rattle.tib_strings.specs.Range.{AreWithin, AreShaped, AreLinear, AreNondeleting}
use Rattle.tib_strings.specs.Series.{IsStringSeries}
use Rattle.tib_image.specs.Restrictions.{restricted_labels}
use Rattle.tib_image.specs.Parsing.{first_key, key_at, IsParseEdge, IsParseGrammar}
use Rattle.tib_strings.specs.declared.StringRule.{StringRule}

-- by the first number, then the second, the third and the fourth
abbrev pub key_cmp : ℕ × ℕ × ℕ × ℕ → ℕ × ℕ × ℕ × ℕ → Ordering
key_cmp x y = ordering_then (nat_cmp x.0 y.0) (ordering_then (nat_cmp x.1 y.1) (ordering_then (nat_cmp x.2 y.2) (nat_cmp x.3 y.3)))

-- a key has its state and its two places for entries, and its restriction where that is not 0
abbrev pub entries_with : ℕ → ℕ
entries_with zero = 3
entries_with (suc e) = 4

abbrev pub key_entries : ℕ × ℕ × ℕ × ℕ → ℕ
key_entries k = entries_with k.3

-- the parts of an edge: one, and the nodes of its right-hand side
abbrev pub edge_parts : Rule (ℕ × ℕ × ℕ × ℕ) → ℕ
edge_parts e = 1 + size e.right

-- From the key of the start over the whole string each key leads on along its edges.
abbrev pub parse : List (StringRule ℕ) → List ℕ → Exploration (ℕ × ℕ × ℕ × ℕ) (ℕ × List ℕ) (Rule (ℕ × ℕ × ℕ × ℕ))
parse moves string =
    keyed key_cmp (first_key (length string)) (IsParseEdge moves string) (λ e. holes_of e.right) (key_parts key_entries) edge_parts

-- the reached set, as rules over the positions of its order, is the grammar of the reached keys
abbrev pub ParseIsReached : Type 0
ParseIsReached =
    (moves : List (StringRule ℕ)) (string : List ℕ) (order : List (ℕ × ℕ × ℕ × ℕ)) (rules : List (Rule ℕ)) → AreInRange (length order) rules →
    IsReachedSet (parse moves string) order (map (named_rule (key_at (length string) order)) rules) → IsParseGrammar moves string order rules

-- So for a linear and nondeleting transducer the reached set, as a grammar, gives each tree the
-- cost that the transducer gives the tree and the string.
abbrev pub ReachedParses : (ℕ → ℕ → ℕ) → Type 0
ReachedParses product =
    (moves : List (StringRule ℕ)) → AreShaped moves → AreLinear moves → AreNondeleting moves → (string : List ℕ) (order : List (ℕ × ℕ × ℕ × ℕ)) (rules : List (Rule ℕ)) →
    AreInRange (length order) rules → IsReachedSet (parse moves string) order (map (named_rule (key_at (length string) order)) rules) →
    (t : Tree ℕ) (v : Option ℕ) → IsSeries product rules t v ↔ IsStringSeries product moves t string v

-- two reached sets have the same keys, in the same order, and the same edges
abbrev pub OneParseSet : Type 0
OneParseSet =
    (moves : List (StringRule ℕ)) (string : List ℕ) (order other : List (ℕ × ℕ × ℕ × ℕ)) (edges more : List (Rule (ℕ × ℕ × ℕ × ℕ))) →
    IsReachedSet (parse moves string) order edges → IsReachedSet (parse moves string) other more →
    (order ≡ other) × ((e : Rule (ℕ × ℕ × ℕ × ℕ)) → Has edges e → Has more e)

-- a key of one of this many states, with places that are in order and within a string of n words,
-- and a restriction by one of this many labels or by none
pub record IsKey (states n labels : ℕ) (k : ℕ × ℕ × ℕ × ℕ) : Type 0 where
  pub state : k.0 < states
  pub from : k.1 ≤ k.2
  pub to : k.2 ≤ n
  pub restricted : k.3 ≤ labels

-- the keys of the reached set are such keys
abbrev pub KeysAreWithin : Type 0
KeysAreWithin =
    (states : ℕ) → 0 < states → (moves : List (StringRule ℕ)) → AreWithin states moves → (string : List ℕ) (order : List (ℕ × ℕ × ℕ × ℕ)) → IsReached (parse moves string) order →
    (k : ℕ × ℕ × ℕ × ℕ) → Has order k → IsKey states (length string) (length (restricted_labels moves)) k

-- the ends of an edge of such a key are such keys
abbrev pub EndsAreKeys : Type 0
EndsAreKeys =
    (states : ℕ) → 0 < states → (moves : List (StringRule ℕ)) → AreWithin states moves → (string : List ℕ) (k : ℕ × ℕ × ℕ × ℕ) (o : ℕ × List ℕ) (e : Rule (ℕ × ℕ × ℕ × ℕ)) (l : ℕ × ℕ × ℕ × ℕ) →
    IsKey states (length string) (length (restricted_labels moves)) k → IsParseEdge moves string k o e → Has (holes_of e.right) l →
    IsKey states (length string) (length (restricted_labels moves)) l
