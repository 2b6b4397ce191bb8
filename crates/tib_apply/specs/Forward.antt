-- Forward application: the trees into which a transducer turns trees of a grammar, each at the
-- least cost.
use Rattle.std.specs.Prelude.{◌≡◌, ℕ, ◌<◌, ◌≤◌, ◌↔◌, List, [], ◌∷◌, length, Option, None, Some, nat_eq, if◌then◌else◌}
use Rattle.std.specs.List.{list_any}
use Rattle.std.proofs.Common.{get_or}
use Rattle.tib_tree.specs.Trees.{Tree, only}
use Rattle.tib_grammar.specs.Sides.{label, Side as SideFor, holes_of, side_map}
use Rattle.tib_grammar.specs.Run.{rule_at, IsCost}
use Rattle.tib_grammar.specs.Series.{IsSeries}
use Rattle.tib_grammar.specs.Range.{AreInRange}
use Rattle.tib_grammar.specs.Forms.{AreNormal}
use Rattle.tib_grammar.specs.declared.Rule.{Rule}
use Rattle.tib_cost.specs.Semiring.{most}
use Rattle.tib_cost.specs.Least.{IsLeast, Products}
use Rattle.tib_inside.specs.Inside.{IsRunCost, AreInsides}
use Rattle.tib_transducer.specs.Rules.{transducer_rule, variables_of, variable_at, variables_in}
use Rattle.tib_transducer.specs.Range.{AreShaped}
use Rattle.tib_transducer.specs.Series.{IsTransducerCost}
use Rattle.tib_transducer.specs.Classes.{AreLinear}
use Rattle.tib_transducer.specs.declared.Variable.{Variable}
use Rattle.tib_transducer.specs.declared.Pair.{Pair}
use Rattle.tib_transducer.specs.declared.TransducerRule.{TransducerRule}
use Rattle.tib_apply.specs.Restrictions.{restricted_labels, restriction, Admits}
use Rattle.tib_match.specs.Matches.{IsMatch}
use Rattle.tib_apply.specs.KeyGrammars.{IsKeyGrammar}

-- c is the product of two costs, for some tree t: that of a run of the grammar from q that yields
-- t, and that of a run of the transducer from p that reads t and puts out u
pub record IsForwardCost (product : ℕ → ℕ → ℕ) (grammar : List (Rule ℕ)) (moves : List (TransducerRule ℕ)) (q p : ℕ) (u : Tree ℕ) (c : ℕ) : Type 0 where
  pub input : Tree ℕ
  pub yielded : ℕ
  pub moved : ℕ
  pub first : IsCost product grammar (q ∷ []) (only input) yielded
  pub second : IsTransducerCost product moves (p ∷ []) (only input) (only u) moved
  pub costs : product yielded moved ≡ c

-- v is the series of forward application at u: over all trees t, the least product of the series of
-- the grammar at t and that of the transducer at t and u
abbrev pub IsForwardSeries : (ℕ → ℕ → ℕ) → List (Rule ℕ) → List (TransducerRule ℕ) → Tree ℕ → Option ℕ → Type 0
IsForwardSeries product grammar moves u v = IsLeast (IsForwardCost product grammar moves 0 0 u) v

-- the key of a pair on the right, where the variables on the left are at these states of the
-- grammar
abbrev pub forward_key : List ℕ → SideFor ℕ Variable → List ℕ → Pair ℕ → ℕ × ℕ × ℕ
forward_key labels left ss x = (get_or ss x.variable 0, x.state, restriction labels (variable_at left x.variable).label)

-- the variables whose numbers are not among those named: the label that each asks for, and the
-- state at its place
abbrev pub deleted : List ℕ → List Variable → List ℕ → List (Option ℕ × ℕ)
deleted named [] ss = []
deleted named (x ∷ xs) [] = []
deleted named (x ∷ xs) (s ∷ ss) = if list_any (nat_eq x.number) named then deleted named xs ss else (x.label, s) ∷ deleted named xs ss

module _ (product : ℕ → ℕ → ℕ) (grammar : List (Rule ℕ)) where
  -- c is the product of the cost of a rule of q with the label f and of a cost of runs from its
  -- states
  pub record BeginsWith (f q c : ℕ) : Type 0 where
    pub rule : ℕ
    pub below : rule < length grammar
    pub left : (rule_at grammar rule).left ≡ q
    pub root : (rule_at grammar rule).right.label ≡ label f
    pub inner : ℕ
    pub runs : IsRunCost product grammar (holes_of (rule_at grammar rule).right) inner
    pub costs : product (rule_at grammar rule).cost inner ≡ c

  -- c is the cost of a run from q, where a label is asked for of one that begins with a rule of
  -- that label
  abbrev pub IsAskedCost : Option ℕ → ℕ → ℕ → Type 0
  IsAskedCost None q c = IsRunCost product grammar (q ∷ []) c
  IsAskedCost (Some f) q c = BeginsWith f q c

  -- c is the product of such costs, one for each label and state
  abbrev pub IsDeletedCost : List (Option ℕ × ℕ) → ℕ → Type 0
  IsDeletedCost [] c = c ≡ 0
  IsDeletedCost (x ∷ xs) c = Products product (IsAskedCost x.0 x.1) (IsDeletedCost xs) c

-- An edge of the key of a state of the grammar, a state of the transducer and a restriction: a rule
-- of the transducer from the second whose left-hand side begins with a label that the restriction
-- admits, and a match of this side from the first. It leads to the right-hand side, in which each
-- pair is the key of the state of the grammar at its variable, of its own state, and of the
-- restriction of its variable. What the right-hand side leaves out costs as much as the cheapest
-- runs there, where a label is asked for by a rule of that label. Its origin is the position of the
-- rule and the states of the grammar at the variables.
pub record IsForwardEdge (product : ℕ → ℕ → ℕ) (grammar : List (Rule ℕ)) (moves : List (TransducerRule ℕ)) (key : ℕ × ℕ × ℕ) (origin : ℕ × List ℕ) (e : Rule (ℕ × ℕ × ℕ)) : Type 0 where
  pub below : origin.0 < length moves
  pub state : (transducer_rule moves origin.0).state ≡ key.1
  pub root : ℕ
  pub is_root : (transducer_rule moves origin.0).left.label ≡ label root
  pub admitted : Admits (restricted_labels moves) key.2 root
  pub matched : ℕ
  pub is_match : IsMatch product grammar (transducer_rule moves origin.0).left key.0 origin.1 (Some matched)
  pub deleted_cost : ℕ
  pub is_deleted_cost :
      IsLeast
      (IsDeletedCost product grammar (deleted (variables_in (transducer_rule moves origin.0).right) (variables_of (transducer_rule moves origin.0).left) origin.1))
      (Some deleted_cost)
  pub left : e.left ≡ key
  pub right : e.right ≡ side_map (forward_key (restricted_labels moves) (transducer_rule moves origin.0).left origin.1) (transducer_rule moves origin.0).right
  pub costs : e.cost ≡ product (product (transducer_rule moves origin.0).cost matched) deleted_cost
  pub within : e.cost ≤ most

-- For a linear transducer, and a grammar whose states have inside costs or none, the grammar of the
-- reached keys has the series of forward application.
abbrev pub ForwardMeans : (ℕ → ℕ → ℕ) → Type 0
ForwardMeans product =
    (grammar : List (Rule ℕ)) → AreNormal grammar → (costs : List (Option ℕ)) → AreInRange (length costs) grammar → AreInsides product grammar costs →
    (moves : List (TransducerRule ℕ)) → AreShaped moves → AreLinear moves → (order : List (ℕ × ℕ × ℕ)) (rules : List (Rule ℕ)) →
    IsKeyGrammar (IsForwardEdge product grammar moves) order rules → (u : Tree ℕ) (v : Option ℕ) → IsSeries product rules u v ↔ IsForwardSeries product grammar moves u v
