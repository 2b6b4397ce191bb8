-- The rule of the turn lock: word 0 is the next ticket, word 1 the ticket that is served, and slot
-- 0 has the value.
use Rattle.std.specs.Prelude.{◌≡◌, ℕ, suc, ◌^◌, ◌≤◌, ◌<◌, List, [], ◌∷◌, length, Option, Some, None}
use mathlib.Core.Option.{some}
use lib.ListN.{get_elem?}
use Rattle.atomic_table.specs.Table.{State}
use Rattle.tib_turn.specs.declared.view.View.{View}
use Rattle.tib_turn.specs.declared.view.Stage.{Stage}
use Rattle.tib_turn.specs.declared.view.Stage.TheVariants.{Idle, Waiting, Inside}
use Rattle.tib_turn.specs.Prefixes.{IsPrefix}

module _ {E : Type 0} where
  -- what a pass knows
  abbrev pub view : List E → List E → Stage → View E
  view seen told stage = record { seen = seen; told = told; stage = stage }

  -- what a pass knows that is out of a turn and took in no other pass
  abbrev pub idle : List E → View E
  idle seen = view seen [] Idle

-- the pass is in a turn
abbrev pub IsInside : Stage → Type 0
IsInside Idle = ⊥
IsInside (Waiting t) = ⊥
IsInside (Inside t) = Unit {0}

-- a waiting seat owns a ticket that is not yet passed, and a seat in its turn owns the ticket that
-- is served
module _ (holder : ℕ) (owner : ℕ → ℕ) (ticket serving j : ℕ) where
  abbrev pub Queued : Stage → Type 0
  Queued Idle = Unit {0}
  Queued (Waiting t) = (serving ≤ t) × (t < ticket) × (owner t ≡ j)
  Queued (Inside t) = (t ≡ serving) × (t < ticket) × (owner t ≡ j) × (holder ≡ suc j)

module _ {V E : Type 0} (log : V → List E) where
  -- Turns are taken in the order of tickets, one at a time, and what each seat has seen is a prefix
  -- of `agreed`. That is the log of the value while no turn is held, and the log at entry while one
  -- is. `holder` is 0, or one more than the number of the seat in its turn; `owner` maps each
  -- ticket to the seat that drew it.
  pub record InTurns (s : State (Option V) (View E)) : Type 0 where
    pub agreed : List E
    pub holder : ℕ
    pub owner : ℕ → ℕ
    pub ticket : ℕ
    pub serving : ℕ
    pub words : s.words ≡ ticket ∷ serving ∷ []
    pub deep : length s.homes ≡ 1
    pub order : serving ≤ ticket
    pub small : ticket < 2 ^ 64
    pub free : holder ≡ 0 → (v : V) × (get_elem? s.homes 0 ≡ some (some (Some v)))
        × (log v ≡ agreed)
    pub held : (j : ℕ) → holder ≡ suc j → (v : View E) × (get_elem? s.views j ≡ some v)
        × IsInside v.stage
    pub queued : (j : ℕ) (v : View E) → get_elem? s.views j ≡ some v →
        Queued holder owner ticket serving j v.stage
    pub seen : (j : ℕ) (v : View E) → get_elem? s.views j ≡ some v → IsPrefix v.seen agreed
        × IsPrefix v.told agreed
    pub inside : (j : ℕ) (v : View E) → get_elem? s.views j ≡ some v → IsInside v.stage →
        v.seen ≡ agreed

  -- between calls a pass is out of its turn and holds nothing, or in its turn and holds the empty
  -- slot
  abbrev pub Stands : Stage → List (ℕ × Option V) → Type 0
  Stands Idle c = c ≡ []
  Stands (Waiting t) c = ⊥
  Stands (Inside t) c = c ≡ (0, None) ∷ []
