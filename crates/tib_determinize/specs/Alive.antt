-- The rules that are alive: those of a label and a rank whose states after a place are in the
-- vectors there.
use Rattle.std.specs.Prelude.{◌≡◌, ℕ, ◌<◌, ◌≤◌, List, [], ◌∷◌, length, drop, Option, None, Some}
use Rattle.std.proofs.Common.{get_or}
use Rattle.tib_lex.specs.Lists.{Has, Each}
use Rattle.tib_grammar.specs.Sides.{label, holes}
use Rattle.tib_grammar.specs.Run.{rule_at}
use Rattle.tib_grammar.specs.declared.Rule.{Rule}
use Rattle.tib_normal.specs.Rules.{positions_with}
use Rattle.tib_cost.specs.Semiring.{most, cut}
use Rattle.tib_cost.specs.Least.{times}
use Rattle.tib_determinize.specs.declared.alive.Alive.{Alive}
use Rattle.tib_determinize.specs.Vectors.{VectorOf, IsWeight, vector_at, vectors_at}
use Rattle.tib_determinize.specs.Lookup.{residual_in}

-- the states below the root of the rule at a position
abbrev pub states_of : List (Rule ℕ) → ℕ → List ℕ
states_of rules m = holes (rule_at rules m).right.kids

abbrev pub with_alive : ℕ → Option ℕ → List Alive → List Alive
with_alive m None more = more
with_alive m (Some w) more = record { rule = m; weight = w } ∷ more

-- the weight of a rule that is alive, where a vector is at the place before
abbrev pub weight_with : (ℕ → ℕ → ℕ) → List (Rule ℕ) → ℕ → List (ℕ × ℕ) → Alive → Option ℕ
weight_with product rules i v a = times product (residual_in (get_or (states_of rules a.rule) i 0) v) (Some a.weight)

-- the rules that are still alive, where a vector is at the place before
abbrev pub narrowed : (ℕ → ℕ → ℕ) → List (Rule ℕ) → ℕ → List (ℕ × ℕ) → List Alive → List Alive
narrowed product rules i v [] = []
narrowed product rules i v (a ∷ alive) = with_alive a.rule (weight_with product rules i v a) (narrowed product rules i v alive)

abbrev pub at_cost : ℕ → Option ℕ → Option (ℕ × ℕ)
at_cost q None = None
at_cost q (Some u) = Some (q, u)

-- the left state of a rule that is alive at its cost, none where that is above the greatest
abbrev pub cost_with : (ℕ → ℕ → ℕ) → List (Rule ℕ) → Alive → Option (ℕ × ℕ)
cost_with product rules a = at_cost (rule_at rules a.rule).left (cut (product (rule_at rules a.rule).cost a.weight))

abbrev pub with_cost : Option (ℕ × ℕ) → List (ℕ × ℕ) → List (ℕ × ℕ)
with_cost None more = more
with_cost (Some x) more = x ∷ more

-- the left states of the rules that are alive, at their costs
abbrev pub costs_of : (ℕ → ℕ → ℕ) → List (Rule ℕ) → List Alive → List (ℕ × ℕ)
costs_of product rules [] = []
costs_of product rules (a ∷ alive) = with_cost (cost_with product rules a) (costs_of product rules alive)

-- each of these rules, with the product of nothing
abbrev pub begun : List ℕ → List Alive
begun [] = []
begun (m ∷ ms) = record { rule = m; weight = 0 } ∷ begun ms

-- the rule at the position has a state at the place
abbrev pub HasState : List (Rule ℕ) → ℕ → ℕ → Type 0
HasState rules i m = (m < length rules) × (i < length (states_of rules m))

-- the state of the rule at the place is in the vector
abbrev pub Stands : List (Rule ℕ) → ℕ → List (ℕ × ℕ) → ℕ → Type 0
Stands rules i v m = (r : ℕ) × Has {A = ℕ × ℕ} v (get_or (states_of rules m) i 0, r)

-- at each place before one the state of the rule is in the vector of a position up to n, which is n
-- itself at the place j
abbrev pub GoesOn : List (Rule ℕ) → List VectorOf → ℕ → ℕ → ℕ → ℕ → Type 0
GoesOn rules order n j from m = (i : ℕ) → i < from → (p : ℕ) × (p ≤ n) × (i ≡ j → p ≡ n) × Stands rules i (vector_at order p) m

-- the positions, of those that may be at the place i where n is last at j, at which one of the
-- rules has its state
abbrev pub HasWanted : List (Rule ℕ) → List VectorOf → ℕ → ℕ → ℕ → List Alive → List ℕ → Type 0
HasWanted rules order n j i alive wanted =
    (p r : ℕ) (a : Alive) → p ≤ n → (i ≡ j → p ≡ n) → Has alive a → Has {A = ℕ × ℕ} (vector_at order p) (get_or (states_of rules a.rule) i 0, r) → Has wanted p

-- each of the positions is at most those after it
abbrev pub AreAscending : List ℕ → Type 0
AreAscending ps = (i m : ℕ) → i < m → m < length ps → get_or ps i 0 ≤ get_or ps m 0

-- the rule has a state at the place
abbrev pub HasPlace : List (Rule ℕ) → ℕ → Alive → Type 0
HasPlace rules i a = (a.rule < length rules) × (i < length (states_of rules a.rule))

module _ (product : ℕ → ℕ → ℕ) (rules : List (Rule ℕ)) (order : List VectorOf) (f k : ℕ) where
  -- the rule has the label and the rank, and its states from a place on are in the vectors at these
  -- positions
  pub record IsAlive (from : ℕ) (ps : List ℕ) (a : Alive) : Type 0 where
    pub below : a.rule < length rules
    pub root : (rule_at rules a.rule).right.label ≡ label f
    pub rank : length (states_of rules a.rule) ≡ k
    pub weighs : IsWeight product (drop from (states_of rules a.rule)) (vectors_at order ps) a.weight

  -- all these rules, but for those whose weight is above the greatest cost
  pub record AreAlive (from : ℕ) (ps : List ℕ) (alive : List Alive) : Type 0 where
    pub sound : Each (IsAlive from ps) alive
    pub whole :
        (m w : ℕ) → Has (positions_with f k rules) m → IsWeight product (drop from (states_of rules m)) (vectors_at order ps) w → w ≤ most →
        Has alive (record { rule = m; weight = w })

  -- The same for a walk whose lists have n last at the place j: all those rules that go on at the
  -- places to come.
  pub record AreLeft (n j from : ℕ) (ps : List ℕ) (alive : List Alive) : Type 0 where
    pub sound : Each (IsAlive from ps) alive
    pub whole :
        (m w : ℕ) → Has (positions_with f k rules) m → IsWeight product (drop from (states_of rules m)) (vectors_at order ps) w → w ≤ most →
        GoesOn rules order n j from m → Has alive (record { rule = m; weight = w })
