-- What the states at the variables of a left-hand side cost beside a match.
use Rattle.std.specs.Prelude.{◌≡◌, ℕ, ◌<◌, Bool, true, false, List, Option, Some}
use Rattle.std.proofs.Common.{get_or}
use Rattle.tib_lex.specs.Lists.{Along}
use Rattle.tib_transducer.specs.declared.Variable.{Variable}
use Rattle.tib_match.specs.Boxes.{cost_at}
use Rattle.tib_match.specs.declared.hole_cost.HoleCost.{HoleCost}
use Rattle.tib_apply.specs.LeastRuns.{asked_in}
use Rattle.tib_apply.specs.declared.deleting.LeastRuns.{LeastRuns}

-- what a state costs at a variable with a label or none: nothing where the variable is kept, and
-- else what the tables have
abbrev pub beside : LeastRuns → Bool → Option ℕ → ℕ → Option ℕ
beside runs true label q = Some 0
beside runs false label q = asked_in runs label q

-- each state below a number costs what the tables have for it
abbrev pub CostsAsAsked : LeastRuns → ℕ → Option ℕ → HoleCost → Type 0
CostsAsAsked runs n label h = (q : ℕ) → q < n → cost_at h q ≡ asked_in runs label q

-- each state below a number costs what it costs at the variable, where it is marked which variables
-- are kept
abbrev pub IsHoleCost : LeastRuns → ℕ → List Bool → Variable → HoleCost → Type 0
IsHoleCost runs n kept x h = (q : ℕ) → q < n → cost_at h q ≡ beside runs (get_or kept x.number false) x.label q

-- the same at each of some variables
abbrev pub AreHoleCosts : LeastRuns → ℕ → List Bool → List Variable → List HoleCost → Type 0
AreHoleCosts runs n kept xs hs = Along (IsHoleCost runs n kept) xs hs
