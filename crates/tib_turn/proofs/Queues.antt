-- What the tickets say of each seat, as turns begin and end.
use Rattle.std.proofs.Common.{◌≡◌, ◌≢◌, ℕ, suc, ◌<◌, refl, sym, ap, ◌∙◌, arith}
use native.Mathlib.Decide.{ℕ_discrete}
use Rattle.tib_turn.specs.declared.view.Stage.{Stage}
use Rattle.tib_turn.specs.declared.view.Stage.TheVariants.{Idle, Waiting, Inside}
use Rattle.tib_turn.specs.Turns.{IsInside, Queued}

-- the ticket t is the seat j's
abbrev pick : {P : Type 0} → Dec P → ℕ → ℕ → ℕ
pick (yes _) a b = a
pick (no _) a b = b

pub given : ℕ → ℕ → (ℕ → ℕ) → ℕ → ℕ
given t j owner k = pick (ℕ_discrete k t) j (owner k)

pub given_here : (t j : ℕ) (owner : ℕ → ℕ) → given t j owner t ≡ j
unfolding given
given_here t j owner = go (ℕ_discrete t t)
  where
    go : (d : Dec (t ≡ t)) → pick d j (owner t) ≡ j
    go (yes e) = refl
    go (no n) = absurd (n refl)

pub given_else : (t j : ℕ) (owner : ℕ → ℕ) (k : ℕ) → k ≢ t → given t j owner k ≡ owner k
unfolding given
given_else t j owner k other = go (ℕ_discrete k t)
  where
    go : (d : Dec (k ≡ t)) → pick d j (owner k) ≡ owner k
    go (yes e) = absurd (other e)
    go (no n) = refl

-- one more ticket
pub one_more : (holder id : ℕ) (owner : ℕ → ℕ) (ticket serving j : ℕ) (st : Stage) → Queued holder owner ticket serving j st → Queued holder (given ticket id owner) (suc ticket) serving j st
one_more holder id owner ticket serving j Idle q = tt
one_more holder id owner ticket serving j (Waiting t) q = (q.0, omega arith, given_else ticket id owner t (λ e. omega arith) ∙ q.2)
one_more holder id owner ticket serving j (Inside t) q = (q.0, omega arith, given_else ticket id owner t (λ e. omega arith) ∙ q.2, q.3)

pub inside_is : (holder : ℕ) (owner : ℕ → ℕ) (ticket serving j : ℕ) (st : Stage) → IsInside st → Queued holder owner ticket serving j st → (owner serving ≡ j) × (holder ≡ suc j) × (serving < ticket)
inside_is holder owner ticket serving j Idle i q = absurd i
inside_is holder owner ticket serving j (Waiting t) i q = absurd i
inside_is holder owner ticket serving j (Inside t) i q = (ap owner (sym q.0) ∙ q.2, q.3, omega arith)

-- the seat id begins its turn
pub begun : (id : ℕ) (owner : ℕ → ℕ) (ticket serving j : ℕ) (st : Stage) → Queued 0 owner ticket serving j st → Queued (suc id) owner ticket serving j st
begun id owner ticket serving j Idle q = tt
begun id owner ticket serving j (Waiting t) q = q
begun id owner ticket serving j (Inside t) q = absurd (omega arith)

-- the seat id ends its turn
pub ended : (holder id : ℕ) (owner : ℕ → ℕ) (ticket serving j : ℕ) (st : Stage) → owner serving ≡ id → j ≢ id → Queued holder owner ticket serving j st → Queued 0 owner ticket (suc serving) j st
ended holder id owner ticket serving j Idle mine other q = tt
ended holder id owner ticket serving j (Waiting t) mine other q = let apart : t ≢ serving = λ e. other (sym q.2 ∙ (ap owner e ∙ mine)) in (omega arith, q.1, q.2)
ended holder id owner ticket serving j (Inside t) mine other q = absurd (other (sym q.2 ∙ (ap owner q.0 ∙ mine)))
