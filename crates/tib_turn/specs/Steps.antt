-- What a pass learns from each step that it takes.
use Rattle.std.specs.Prelude.{◌≡◌, ◌≢◌, ℕ, List, [], ◌∷◌, Option, Some, None}
use Rattle.atomic_table.specs.Table.{Me, Step}
use Rattle.tib_turn.specs.declared.view.View.{View}
use Rattle.tib_turn.specs.declared.view.Stage.TheVariants.{Waiting}
use Rattle.tib_turn.specs.Prefixes.{IsPrefix, longer}
use Rattle.tib_turn.specs.Turns.{view, idle, IsInside}

module _ {V E : Type 0} (log : V → List E) where
  -- what a seat knows, and the slots that it holds
  abbrev St : Type 0
  St = Me (Option V) (View E)

  -- a ticket was drawn if the word was the one expected
  abbrev pub Drawn : Step (Option V) → St → ℕ → St → Type 0
  Drawn s m found n = (found ≡ s.first → n ≡ (view m.0.seen m.0.told (Waiting found), m.1)) × (found ≢ s.first → n ≡ m)

  -- its ticket is served: the value is out with the seat, and the seat has seen its log
  abbrev pub Entered : St → St → Type 0
  Entered m n = (v : V) × (n.1 ≡ (0, Some v) ∷ m.1) × (n.0.seen ≡ log v) × IsInside n.0.stage × IsPrefix m.0.seen (log v)

  -- a waiting seat found which ticket is served: it entered if that is its own, and otherwise
  -- nothing changed
  abbrev pub Looked : Step (Option V) → St → ℕ → St → Type 0
  Looked s m found n = (t : ℕ) → m.0.stage ≡ Waiting t → (found ≡ t → Entered m n) × (found ≢ t → n ≡ m)

  -- the log of the value that a seat holds
  abbrev pub log_of : List (ℕ × Option V) → List E
  log_of [] = []
  log_of ((k, None) ∷ cs) = []
  log_of ((k, Some v) ∷ cs) = log v

  -- the turn is over: the value is back, and the seat has seen its log
  abbrev pub Left : Step (Option V) → St → ℕ → St → Type 0
  Left s m found n = n ≡ (idle (log_of m.1), [])

  -- a seat knows the longer of what it has seen and what a pass that it took in has, and both are
  -- prefixes of that
  abbrev pub Learned : Step (Option V) → St → ℕ → St → Type 0
  Learned s m found n = (n ≡ (idle (longer m.0.seen m.0.told), m.1)) × IsPrefix m.0.seen n.0.seen × IsPrefix m.0.told n.0.seen
