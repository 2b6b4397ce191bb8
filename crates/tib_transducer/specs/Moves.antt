-- The rules of a transducer by their state.
use Rattle.std.specs.Prelude.{◌≡◌, ℕ, nat_eq, List, [], ◌∷◌, if◌then◌else◌, map}
use Rattle.std.specs.Global.{Vec}
use Rattle.std.proofs.Common.{suc, get_or}
use Rattle.tib_transducer.specs.declared.TransducerRule.{TransducerRule}
use Rattle.tib_transducer.specs.declared.index.StateIndex.{StateIndex}

-- the positions, of which the first is n, of the rules of a state
abbrev pub moves_from : ℕ → ℕ → List (TransducerRule ℕ) → List ℕ
moves_from n state [] = []
moves_from n state (r ∷ rs) = if nat_eq r.state state then n ∷ moves_from (suc n) state rs else moves_from (suc n) state rs

-- the positions, from 0, of the rules of a state, ascending
abbrev pub moves_of : ℕ → List (TransducerRule ℕ) → List ℕ
moves_of state rules = moves_from 0 state rules

-- the list at the place of a state, empty where there is none
abbrev pub held : List (Vec ℕ) → ℕ → List ℕ
held buckets state = get_or (map (λ b. b.items) buckets) state []

-- each state has the positions of its rules
abbrev pub IsStateIndex : List (TransducerRule ℕ) → StateIndex → Type 0
IsStateIndex rules index = (state : ℕ) → held index.buckets.items state ≡ moves_of state rules
