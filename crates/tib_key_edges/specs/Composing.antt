-- Composition of two transducers: edges of pairs of states, the composite transducer, and what it
-- means.
use Rattle.std.specs.Prelude.{◌≡◌, ℕ, ◌<◌, ◌≤◌, ◌↔◌, List, [], ◌∷◌, length, map, Option, Some}
use Rattle.tib_lex.specs.Lists.{Distinct}
use Rattle.tib_tree.specs.Trees.{Tree, Trees, only}
use Rattle.tib_cost.specs.Semiring.{most}
use Rattle.tib_cost.specs.Least.{IsLeast, Products, times}
use Rattle.tib_expand.specs.EdgeLists.{Lists}
use Rattle.tib_key_edges.specs.Ends.{key_at}
use Rattle.tib_transducer.specs.Rules.{transducer_rule}
use Rattle.tib_transducer.specs.Series.{IsTransducerCost, IsTransducerSeries}
use Rattle.tib_key_edges.specs.Named.{named_transducer_rule}
use Rattle.tib_transducer.specs.Range.{AreShaped, AreWithin}
use Rattle.tib_key_edges.specs.Plain.{ArePlain}
use Rattle.tib_key_edges.specs.Translations.{AreTranslations, translated, choice_cost}
use Rattle.tib_transducer.specs.declared.TransducerRule.{TransducerRule}

-- c is the cost of a run from the start that reads t and outputs u
abbrev pub Moves : (ℕ → ℕ → ℕ) → List (TransducerRule ℕ) → Tree ℕ → Tree ℕ → ℕ → Type 0
Moves product rules t u = IsTransducerCost product rules (0 ∷ []) (only t) (only u)

-- An edge of a pair of states: a rule of the first transducer from the first state, and a choice by
-- which the second transducer translates the rule's right-hand side from the second state. It reads
-- what the rule reads and outputs the translation. Its cost is the product of their costs, at most
-- the greatest cost. Its origin is the rule and the choice.
pub record IsComposeEdge (product : ℕ → ℕ → ℕ) (one two : List (TransducerRule ℕ)) (key : ℕ × ℕ) (origin : ℕ × Trees (Option ℕ)) (e : TransducerRule (ℕ × ℕ)) : Type 0 where
  pub below : origin.0 < length one
  pub from : (transducer_rule one origin.0).state ≡ key.0
  pub choice : AreTranslations two (key.1 ∷ []) (only (transducer_rule one origin.0).right) origin.1
  pub state : e.state ≡ key
  pub left : e.left ≡ (transducer_rule one origin.0).left
  pub right : only e.right ≡ translated two (key.1 ∷ []) (only (transducer_rule one origin.0).right) origin.1
  pub costs : e.cost ≡ product (transducer_rule one origin.0).cost (choice_cost product two origin.1)
  pub within : e.cost ≤ most

module _ (product : ℕ → ℕ → ℕ) (one two : List (TransducerRule ℕ)) where
  -- the edge of a position of the order, by that position and its origin
  abbrev pub GivesEdge : List (ℕ × ℕ) → ℕ × (ℕ × Trees (Option ℕ)) → TransducerRule (ℕ × ℕ) → Type 0
  GivesEdge order from e = (from.0 < length order) × IsComposeEdge product one two (key_at order from.0) from.1 e

  -- The composite transducer. The order has the pair of the starts first, and no pair twice. The
  -- rules are over its positions. With the pairs in place of these, they are exactly the edges of
  -- the pairs, each as often as origins give it. So each end of an edge is in the order.
  pub record IsComposite (order : List (ℕ × ℕ)) (rules : List (TransducerRule ℕ)) : Type 0 where
    pub long : 0 < length order
    pub start : key_at order 0 ≡ (0, 0)
    pub once : Distinct order
    pub in_range : AreWithin (length order) rules
    pub edges : Lists (GivesEdge order) (map (named_transducer_rule (key_at order)) rules)

-- the rules of the composite transducer have their shape if those of the first one do
abbrev pub CompositeIsShaped : (ℕ → ℕ → ℕ) → Type 0
CompositeIsShaped product =
    (one two : List (TransducerRule ℕ)) (order : List (ℕ × ℕ)) (rules : List (TransducerRule ℕ)) → AreShaped one → IsComposite product one two order rules → AreShaped rules

-- c is the product of the costs of a run of the first transducer that reads t and outputs some
-- tree, and of a run of the second that reads that tree and outputs v
abbrev pub HasTriple : (ℕ → ℕ → ℕ) → List (TransducerRule ℕ) → List (TransducerRule ℕ) → Tree ℕ → Tree ℕ → ℕ → Type 0
HasTriple product one two t v c = (u : Tree ℕ) × Products product (Moves product one t u) (Moves product two u v) c

-- what is required of the two transducers and of the composite one
pub record AreComposed (product : ℕ → ℕ → ℕ) (one two : List (TransducerRule ℕ)) (order : List (ℕ × ℕ)) (rules : List (TransducerRule ℕ)) : Type 0 where
  pub two_shaped : AreShaped two
  pub two_plain : ArePlain two
  pub composite : IsComposite product one two order rules

-- each run of the composite transducer has a triple of its cost
abbrev pub RunsHaveTriples : (ℕ → ℕ → ℕ) → Type 0
RunsHaveTriples product =
    (one two : List (TransducerRule ℕ)) (order : List (ℕ × ℕ)) (rules : List (TransducerRule ℕ)) → AreComposed product one two order rules →
    (t v : Tree ℕ) (c : ℕ) → Moves product rules t v c → HasTriple product one two t v c

-- each triple of a cost at most the greatest has a run of the composite transducer
abbrev pub TriplesHaveRuns : (ℕ → ℕ → ℕ) → Type 0
TriplesHaveRuns product =
    (one two : List (TransducerRule ℕ)) (order : List (ℕ × ℕ)) (rules : List (TransducerRule ℕ)) → AreComposed product one two order rules →
    (t v : Tree ℕ) (c : ℕ) → HasTriple product one two t v c → c ≤ most → Moves product rules t v c

-- The series of the composite transducer is the least, over all middle trees, of the product of the
-- two series. The series are given as functions of the middle tree.
abbrev pub ComposesSeries : (ℕ → ℕ → ℕ) → Type 0
ComposesSeries product =
    (one two : List (TransducerRule ℕ)) (order : List (ℕ × ℕ)) (rules : List (TransducerRule ℕ)) → AreComposed product one two order rules →
    (t v : Tree ℕ) (first second : Tree ℕ → Option ℕ) → ((u : Tree ℕ) → IsTransducerSeries product one t u (first u)) →
    ((u : Tree ℕ) → IsTransducerSeries product two u v (second u)) → (w : Option ℕ) →
    IsTransducerSeries product rules t v w ↔ IsLeast (λ n. (u : Tree ℕ) × (times product (first u) (second u) ≡ Some n)) w

-- the same with the costs of runs in place of the two series
abbrev pub IsComposed : (ℕ → ℕ → ℕ) → Type 0
IsComposed product =
    (one two : List (TransducerRule ℕ)) (order : List (ℕ × ℕ)) (rules : List (TransducerRule ℕ)) → AreComposed product one two order rules →
    (t v : Tree ℕ) (w : Option ℕ) → IsTransducerSeries product rules t v w ↔ IsLeast (HasTriple product one two t v) w
