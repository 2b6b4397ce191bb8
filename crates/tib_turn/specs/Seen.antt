-- What contracts see of a pass.
use Rattle.std.specs.Prelude.{List, Bool, true, false}
use Rattle.atomic_table.specs.Seated.{TableId}
use Rattle.tib_turn.specs.declared.view.View.{View}
use Rattle.tib_turn.specs.declared.view.Stage.{Stage}
use Rattle.tib_turn.specs.declared.view.Stage.TheVariants.{Idle, Waiting, Inside}

-- the lock of a pass, the list that it has seen, and whether it is in a turn
pub record Seen (E : Type 0) : Type 0 where
  pub lock : TableId
  pub seen : List E
  pub inside : Bool

-- the pass is in a turn, as a test
abbrev pub is_inside : Stage → Bool
is_inside Idle = false
is_inside (Waiting t) = false
is_inside (Inside t) = true

-- a pass of a lock, by what its seat knows
abbrev pub pass_view : {E : Type 0} → TableId → View E → Seen E
pass_view z v = record { lock = z; seen = v.seen; inside = is_inside v.stage }
