-- What waits, as lists.
use Rattle.std.specs.Prelude.{ℕ, List, [], replicate}
use Rattle.std.proofs.Common.{get_or}
use Rattle.std.specs.Global.{Vec}
use Rattle.tib_k_best.specs.declared.queue.Waiting.{Waiting}

pub record QueueOf : Type 0 where
  pub waiting : List (List Waiting)
  pub heap : List ℕ

-- the rules that wait for a state
abbrev pub rules_of : Vec Waiting → List Waiting
rules_of v = v.items

abbrev pub waiting_at : QueueOf → ℕ → List Waiting
waiting_at w q = get_or w.waiting q []

-- a queue in which nothing waits
abbrev pub empty_queue : ℕ → QueueOf
empty_queue states = record { waiting = replicate states []; heap = [] }
