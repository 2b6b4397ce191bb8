-- What states keep while their lists grow, as lists.
use Rattle.std.specs.Prelude.{ℕ, List, [], map}
use Rattle.std.proofs.Common.{get_or}
use Rattle.std.specs.Global.{Vec}
use Rattle.std.specs.HashSet.{keys}
use Rattle.tib_lazy_lists.specs.declared.asking.Stage.{Stage}
use Rattle.tib_lazy_lists.specs.declared.asking.Stage.TheVariants.{Whole}
use Rattle.tib_lazy_lists.specs.declared.asking.Asked.{Asked}
use Rattle.tib_lazy_lists.specs.declared.asking.Asking.{Asking}

-- How far a state has come, the candidate that it took last, and those that wait.
pub record StateOf : Type 0 where
  pub stage : Stage
  pub last : ℕ
  pub heap : List ℕ

-- How many trees are asked for, what each state keeps, its rules, and the trees that states list,
-- by number.
pub record AskingOf : Type 0 where
  pub k : ℕ
  pub states : List StateOf
  pub by_state : List (List ℕ)
  pub listed : List (ℕ × ℕ)

abbrev pub state_of : Asked → StateOf
state_of s = record { stage = s.stage; last = s.last; heap = s.heap.items }

abbrev pub rules_of : Vec ℕ → List ℕ
rules_of v = v.items

abbrev pub asking_of : Asking → AskingOf
asking_of a = record { k = a.k; states = map state_of a.states.items; by_state = map rules_of a.by_state.items; listed = keys a.listed }

-- what is read past an end
abbrev pub no_state : StateOf
no_state = record { stage = Whole; last = 0; heap = [] }

abbrev pub state_at : AskingOf → ℕ → StateOf
state_at a q = get_or a.states q no_state
