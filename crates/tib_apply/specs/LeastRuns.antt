-- The least costs of runs of a grammar from each state, whatever they yield.
use Rattle.std.specs.Prelude.{◌≡◌, ℕ, ◌&&◌, nat_eq, Bool, List, [], ◌∷◌, Option, None, Some, if◌then◌else◌}
use Rattle.std.specs.HashMap.{HashMap, get}
use Rattle.std.proofs.Common.{get_or}
use Rattle.tib_grammar.specs.Sides.{holes}
use Rattle.tib_grammar.specs.declared.Rule.{Rule}
use Rattle.tib_grammar.proofs.Best.{fits, best_rule}
use Rattle.tib_cost.specs.Least.{IsLeast, times, lesser}
use Rattle.tib_inside.specs.Inside.{IsRunCost, total}
use Rattle.tib_apply.specs.Forward.{BeginsWith}
use Rattle.tib_apply.specs.declared.deleting.LeastRuns.{LeastRuns}

-- whether two pairs of a state and a label are the same
abbrev pub same_start : ℕ × ℕ → ℕ × ℕ → Bool
same_start s t = nat_eq s.0 t.0 && nat_eq s.1 t.1

-- the product of the inside costs of some states
abbrev pub inside_total : (ℕ → ℕ → ℕ) → List (Option ℕ) → List ℕ → Option ℕ
inside_total product insides qs = total product (λ q. get_or insides q None) qs

-- the least product of one of the first n rules of q with the label f and of the inside costs of
-- its states
abbrev pub begun_by : (ℕ → ℕ → ℕ) → List (Option ℕ) → List (Rule ℕ) → ℕ → ℕ → ℕ → Option ℕ
begun_by product insides rules n q f = best_rule product rules (inside_total product insides) q f n

-- the table has such a product for each state and label
abbrev pub AreBegun : {S : Type 0} → (ℕ → ℕ → ℕ) → List (Option ℕ) → List (Rule ℕ) → ℕ → HashMap (ℕ × ℕ) ℕ S → Type 0
AreBegun product insides rules n begun = (q f : ℕ) → get same_start begun (q, f) ≡ begun_by product insides rules n q f

-- the table with the product of one more rule
abbrev pub Lowers : {S : Type 0} → (ℕ → ℕ → ℕ) → List (Option ℕ) → Rule ℕ → HashMap (ℕ × ℕ) ℕ S → HashMap (ℕ × ℕ) ℕ S → Type 0
Lowers product insides rule old new =
    (q f : ℕ) →
    get same_start new (q, f)
    ≡ (if fits rule q f then lesser (get same_start old (q, f)) (times product (Some rule.cost) (inside_total product insides (holes rule.right.kids))) else get same_start old (q, f))

-- the least cost of a run from each state, and of one that begins with a rule of each state and
-- label
pub record AreLeastRuns (product : ℕ → ℕ → ℕ) (rules : List (Rule ℕ)) (runs : LeastRuns) : Type 0 where
  pub insides : (q : ℕ) → IsLeast (IsRunCost product rules (q ∷ [])) (get_or runs.insides.items q None)
  pub begun : (q f : ℕ) → IsLeast (BeginsWith product rules f q) (get same_start runs.begun (q, f))

-- the cost that the tables have for a state, where a label is asked for that of the state and the
-- label
abbrev pub asked_in : LeastRuns → Option ℕ → ℕ → Option ℕ
asked_in runs None q = get_or runs.insides.items q None
asked_in runs (Some f) q = get same_start runs.begun (q, f)

-- the product of such costs
abbrev pub deleted_in : (ℕ → ℕ → ℕ) → LeastRuns → List (Option ℕ × ℕ) → Option ℕ
deleted_in product runs [] = Some 0
deleted_in product runs (x ∷ xs) = times product (asked_in runs x.0 x.1) (deleted_in product runs xs)
