-- Parsing: the trees that a tree-to-string transducer turns into one string, each at the least
-- cost.
use Rattle.std.specs.Prelude.{◌≡◌, ℕ, ◌<◌, ◌↔◌, List, [], ◌∷◌, length, map, Option, nat_eq, if◌then◌else◌}
use Rattle.std.proofs.Common.{get_or}
use Rattle.tib_lex.specs.Lists.{Distinct}
use Rattle.tib_tree.specs.Trees.{Tree}
use Rattle.tib_grammar.specs.Sides.{label, side_map}
use Rattle.tib_grammar.specs.Range.{AreInRange}
use Rattle.tib_grammar.specs.GrammarOf.{named_rule}
use Rattle.tib_grammar.specs.Series.{IsSeries}
use Rattle.tib_grammar.specs.declared.Rule.{Rule}
use Rattle.tib_expand.specs.EdgeLists.{Lists}
use Rattle.tib_transducer.specs.declared.Variable.{Variable}
use Rattle.tib_transducer.specs.declared.Pair.{Pair}
use Rattle.tib_strings.specs.Rules.{string_rule, pairs_of}
use Rattle.tib_strings.specs.Range.{AreShaped, AreLinear, AreNondeleting}
use Rattle.tib_strings.specs.Series.{IsStringSeries}
use Rattle.tib_apply.specs.Restrictions.{restriction, Admits}
use Rattle.tib_image.specs.Restrictions.{restricted_labels}
use Rattle.tib_strings.specs.Cuts.{IsCut, spans}
use Rattle.tib_strings.specs.declared.StringRule.{StringRule}

-- A key: a state of the transducer, the places where its part of the string begins and ends, and a
-- restriction.

-- the key of the start over a string of n words
abbrev pub first_key : ℕ → ℕ × ℕ × ℕ × ℕ
first_key n = (0, 0, n, 0)

-- the key at a position of an order
abbrev pub key_at : ℕ → List (ℕ × ℕ × ℕ × ℕ) → ℕ → ℕ × ℕ × ℕ × ℕ
key_at n order m = get_or order m (first_key n)

-- the state of the pair with the variable i, and the places before and after it
abbrev pub span_at : ℕ → List (Pair ℕ) → List (ℕ × ℕ) → ℕ × ℕ × ℕ
span_at i [] ss = (0, 0, 0)
span_at i (x ∷ xs) [] = (0, 0, 0)
span_at i (x ∷ xs) (s ∷ ss) = if nat_eq i x.variable then (x.state, s.0, s.1) else span_at i xs ss

-- the key of a variable, where pairs are on the right between these places
abbrev pub parse_key : List ℕ → List (Pair ℕ) → List (ℕ × ℕ) → Variable → ℕ × ℕ × ℕ × ℕ
parse_key labels pairs ss x = ((span_at x.number pairs ss).0, (span_at x.number pairs ss).1, (span_at x.number pairs ss).2, restriction labels x.label)

-- An edge of the key of a state, two places and a restriction: a rule of the state whose left-hand
-- side begins with a label that the restriction admits, and a cut of its right-hand side from the
-- first place to the second. It leads to the left-hand side, in which each variable is the key of
-- the state of its pair on the right, of the places before and after that pair, and of its own
-- restriction, at the cost of the rule. Its origin is the position of the rule and the cut.
pub record IsParseEdge (moves : List (StringRule ℕ)) (string : List ℕ) (key : ℕ × ℕ × ℕ × ℕ) (origin : ℕ × List ℕ) (e : Rule (ℕ × ℕ × ℕ × ℕ)) : Type 0 where
  pub below : origin.0 < length moves
  pub state : (string_rule moves origin.0).state ≡ key.0
  pub root : ℕ
  pub is_root : (string_rule moves origin.0).left.label ≡ label root
  pub admitted : Admits (restricted_labels moves) key.3 root
  pub is_cut : IsCut string (string_rule moves origin.0).right key.1 key.2 origin.1
  pub left : e.left ≡ key
  pub right :
      e.right
      ≡ side_map (parse_key (restricted_labels moves) (pairs_of (string_rule moves origin.0).right) (spans (string_rule moves origin.0).right key.1 origin.1)) (string_rule moves origin.0).left
  pub costs : e.cost ≡ (string_rule moves origin.0).cost

-- Where Edge says of a key, an origin and an edge that the origin gives the key this edge: the
-- order has the key of the start over a string of n words first, and no key twice. The rules are
-- over its positions and are, with the keys in place of these, exactly the edges of the keys, each
-- as often as origins give it. So each end of an edge is in the order.
pub record IsKeyGrammar {O : Type 0} (n : ℕ) (Edge : ℕ × ℕ × ℕ × ℕ → O → Rule (ℕ × ℕ × ℕ × ℕ) → Type 0) (order : List (ℕ × ℕ × ℕ × ℕ)) (rules : List (Rule ℕ)) : Type 0 where
  pub long : 0 < length order
  pub start : key_at n order 0 ≡ first_key n
  pub once : Distinct order
  pub in_range : AreInRange (length order) rules
  pub edges : Lists (λ (from : ℕ × O) (e : Rule (ℕ × ℕ × ℕ × ℕ)). (from.0 < length order) × Edge (key_at n order from.0) from.1 e) (map (named_rule (key_at n order)) rules)

-- the grammar of the keys that parsing reaches
abbrev pub IsParseGrammar : List (StringRule ℕ) → List ℕ → List (ℕ × ℕ × ℕ × ℕ) → List (Rule ℕ) → Type 0
IsParseGrammar moves string order rules = IsKeyGrammar (length string) (IsParseEdge moves string) order rules

-- for a linear and nondeleting transducer that grammar gives each tree the cost that the transducer
-- gives the tree and the string
abbrev pub ParseMeans : (ℕ → ℕ → ℕ) → Type 0
ParseMeans product =
    (moves : List (StringRule ℕ)) → AreShaped moves → AreLinear moves → AreNondeleting moves → (string : List ℕ) (order : List (ℕ × ℕ × ℕ × ℕ)) (rules : List (Rule ℕ)) →
    IsParseGrammar moves string order rules → (t : Tree ℕ) (v : Option ℕ) → IsSeries product rules t v ↔ IsStringSeries product moves t string v
