-- Backward application: the trees that a transducer turns into trees of a grammar, each at the
-- least cost.
use Rattle.std.specs.Prelude.{◌≡◌, ℕ, ◌<◌, ◌≤◌, ◌↔◌, List, [], ◌∷◌, length, Option, Some, nat_eq, if◌then◌else◌}
use Rattle.tib_tree.specs.Trees.{Tree, only}
use Rattle.tib_grammar.specs.Sides.{label, holes_of, side_map}
use Rattle.tib_grammar.specs.Run.{IsCost}
use Rattle.tib_grammar.specs.Series.{IsSeries}
use Rattle.tib_grammar.specs.Forms.{AreNormal}
use Rattle.tib_grammar.specs.declared.Rule.{Rule}
use Rattle.tib_cost.specs.Semiring.{most}
use Rattle.tib_cost.specs.Least.{IsLeast}
use Rattle.tib_transducer.specs.Rules.{transducer_rule}
use Rattle.tib_transducer.specs.Range.{AreShaped}
use Rattle.tib_transducer.specs.Series.{IsTransducerCost}
use Rattle.tib_transducer.specs.Classes.{AreLinear, AreNondeleting}
use Rattle.tib_transducer.specs.declared.Variable.{Variable}
use Rattle.tib_transducer.specs.declared.Pair.{Pair}
use Rattle.tib_transducer.specs.declared.TransducerRule.{TransducerRule}
use Rattle.tib_apply.specs.Restrictions.{restricted_labels, restriction, Admits}
use Rattle.tib_match.specs.Matches.{IsMatch}
use Rattle.tib_apply.specs.KeyGrammars.{IsKeyGrammar}

-- c is the product of two costs, for some tree u: that of a run of the transducer from p that reads
-- t and puts out u, and that of a run of the grammar from q that yields u
pub record IsBackwardCost (product : ℕ → ℕ → ℕ) (moves : List (TransducerRule ℕ)) (grammar : List (Rule ℕ)) (p q : ℕ) (t : Tree ℕ) (c : ℕ) : Type 0 where
  pub output : Tree ℕ
  pub moved : ℕ
  pub yielded : ℕ
  pub first : IsTransducerCost product moves (p ∷ []) (only t) (only output) moved
  pub second : IsCost product grammar (q ∷ []) (only output) yielded
  pub costs : product moved yielded ≡ c

-- v is the series of backward application at t: over all trees u, the least product of the series
-- of the transducer at t and u and that of the grammar at u
abbrev pub IsBackwardSeries : (ℕ → ℕ → ℕ) → List (TransducerRule ℕ) → List (Rule ℕ) → Tree ℕ → Option ℕ → Type 0
IsBackwardSeries product moves grammar t v = IsLeast (IsBackwardCost product moves grammar 0 0 t) v

-- the state of the pair with the variable i, and the state of the grammar at its place
abbrev pub states_at : ℕ → List (Pair ℕ) → List ℕ → ℕ × ℕ
states_at i [] ss = (0, 0)
states_at i (x ∷ xs) [] = (0, 0)
states_at i (x ∷ xs) (s ∷ ss) = if nat_eq i x.variable then (x.state, s) else states_at i xs ss

-- the key of a variable, where pairs are on the right at these states of the grammar
abbrev pub backward_key : List ℕ → List (Pair ℕ) → List ℕ → Variable → ℕ × ℕ × ℕ
backward_key labels pairs ss x = ((states_at x.number pairs ss).0, (states_at x.number pairs ss).1, restriction labels x.label)

-- An edge of the key of a state of the transducer, a state of the grammar and a restriction: a rule
-- of the transducer from the first whose left-hand side begins with a label that the restriction
-- admits, and a match of its right-hand side from the second. It leads to the left-hand side, in
-- which each variable is the key of the states at its pair on the right and of its own restriction.
-- Its origin is the position of the rule and the states of the grammar at the pairs.
pub record IsBackwardEdge (product : ℕ → ℕ → ℕ) (moves : List (TransducerRule ℕ)) (grammar : List (Rule ℕ)) (key : ℕ × ℕ × ℕ) (origin : ℕ × List ℕ) (e : Rule (ℕ × ℕ × ℕ)) : Type 0 where
  pub below : origin.0 < length moves
  pub state : (transducer_rule moves origin.0).state ≡ key.0
  pub root : ℕ
  pub is_root : (transducer_rule moves origin.0).left.label ≡ label root
  pub admitted : Admits (restricted_labels moves) key.2 root
  pub matched : ℕ
  pub is_match : IsMatch product grammar (transducer_rule moves origin.0).right key.1 origin.1 (Some matched)
  pub left : e.left ≡ key
  pub right :
      e.right
      ≡ side_map (backward_key (restricted_labels moves) (holes_of (transducer_rule moves origin.0).right) origin.1) (transducer_rule moves origin.0).left
  pub costs : e.cost ≡ product (transducer_rule moves origin.0).cost matched
  pub within : e.cost ≤ most

-- for a linear and nondeleting transducer the grammar of the reached keys has the series of
-- backward application
abbrev pub BackwardMeans : (ℕ → ℕ → ℕ) → Type 0
BackwardMeans product =
    (moves : List (TransducerRule ℕ)) → AreShaped moves → AreLinear moves → AreNondeleting moves → (grammar : List (Rule ℕ)) → AreNormal grammar →
    (order : List (ℕ × ℕ × ℕ)) (rules : List (Rule ℕ)) → IsKeyGrammar (IsBackwardEdge product moves grammar) order rules → (t : Tree ℕ) (v : Option ℕ) →
    IsSeries product rules t v ↔ IsBackwardSeries product moves grammar t v
